-- Where no line of at most three numbers without a minus was read, there is no plain line.
use Rattle.std.proofs.Common.{◌≡◌, ◌≤◌, drop, arith}
use Rattle.scan.specs.Line.{bad, no_minus, due_line}
use Rattle.scan.specs.Plain.{most_plain}
use Rattle.scan.specs.PlainLaws.{plain_none}
use Rattle.scan.proofs.read_plain.Goals as goal

pub returns-in_err-line-clause-result_value : goal.returns-in_err-line-clause-result_value
returns-in_err-line-clause-result_value c =
    let a = c.args in
    let few : a.count ≤ most_plain = omega arith in
    let none : bad ≡ due_line a.key.now a.count no_minus (drop a.at a.s.now) = c.in_err-line.ensures.result_value in
    rw c.from_residual.ensures (plain_none _ _ _ few none)
