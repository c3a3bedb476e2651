-- The count is the one asked for, so the operation's test decides.
use Rattle.std.proofs.Common.{eq-eqb}
use Rattle.tree_lines.proofs.cut_known.Goals as goal

pub returns-then-line-eq2 : goal.returns-then-line-eq2
returns-then-line-eq2 c = rw (eq-eqb c.args.line.count 2 c.if-line-eq2.true)
