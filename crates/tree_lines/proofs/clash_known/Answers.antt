-- The count is the one asked for and the first operation is the sheet's, so the second one's test decides.
use Rattle.std.proofs.Common.{get_or, eq-eqb, lt-ltb}
use Rattle.tree_lines.proofs.clash_known.Goals as goal

pub returns-then-i-ops : goal.returns-then-i-ops
returns-then-i-ops c =
    let a = c.args in
    let h = c.if-i-ops.true in
    rw (eq-eqb a.line.count 2 h.0, lt-ltb (get_or a.line.values 0 0) a.ops h.1)
