-- From what `put_lines` ensures of the lines of the interval.
use Rattle.std.proofs.Common.{rules}
use Rattle.interval_lines.specs.IntervalLines.{interval_lines}
use Rattle.interval_lines.proofs.put_interval.Goals as goal

pub returns : goal.returns
returns c = let a = c.args in c.put_lines.ensures (interval_lines a.sheet a.interval a.a) (search rules)
