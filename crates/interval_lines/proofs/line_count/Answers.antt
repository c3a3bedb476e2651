-- From the counts of the lines by the answer.
use Rattle.std.proofs.Common.{sym, arith}
use Rattle.interval_lines.specs.Places.{count_0, count_5, count_else}
use Rattle.interval_lines.proofs.line_count.Goals as goal

pub returns-then-a-eq0 : goal.returns-then-a-eq0
returns-then-a-eq0 c = let o = c.requires.ops in (sym (count_0 c.args.s c.args.interval c.args.a c.if-a-eq0.true), omega arith)

pub returns-then-a-eq5 : goal.returns-then-a-eq5
returns-then-a-eq5 c = (sym (count_5 c.args.s c.args.interval c.args.a c.if-a-eq5.true), omega arith)

pub returns : goal.returns
returns c = (sym (count_else c.args.s c.args.interval c.args.a c.if-a-eq0.false c.if-a-eq5.false), omega arith)
