-- From the law of a part that was lent and came back.
use Rattle.std.proofs.Common.{ℕ, ◌+◌, ap, arith}
use Rattle.text.specs.Text.{digits}
use Rattle.text.specs.Writing.{part_back}
use Rattle.text.proofs.number.put_number_at.Goals as goal

pub returns : goal.returns
returns c =
    let a = c.args in
    let p = c.put_number in
    (ap (λ (k : ℕ). a.at + k) p.ensures.0, part_back (digits a.n) a.out.now a.at p.new.out (omega arith) p.ensures.1)
