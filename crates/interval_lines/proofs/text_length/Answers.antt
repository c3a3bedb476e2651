-- From what `lines_length` ensures of the lines of the interval.
use Rattle.std.proofs.Common.{arith, rules}
use Rattle.interval_lines.specs.IntervalLines.{interval_lines}
use Rattle.interval_lines.proofs.text_length.Goals as goal

pub returns : goal.returns
returns c =
    let a = c.args in
    let n = c.line_count-lines.ensures.0 in
    c.lines_length.ensures (interval_lines a.s a.interval a.a) (record { count = omega arith; each = λ i h l p. search rules })
