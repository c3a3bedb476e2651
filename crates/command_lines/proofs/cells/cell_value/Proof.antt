-- `command_lines::cells::cell_value` meets its contract: the branches are those of `cell_of`.
-- Assumes nothing.
use Rattle.laws.specs.Z.{kept}
use Rattle.command_lines.proofs.cells.cell_value.Statement.{statement}
use Rattle.command_lines.proofs.cells.cell_value.Tie as tie

returns : tie.Need-returns-then-sum-le-NO_WALK
returns c = let t = rw (kept c.ranges.sum) at c.if-sum-le-NO_WALK.true in rw t

returns_2 : tie.Need-returns
returns_2 c = let f = c.ranges.sum in let t = rw (kept f) at c.if-sum-le-NO_WALK.false in rw (kept f, t)

pub cell_value_spec : {M : Type 1} → statement M
cell_value_spec = tie.close (tie.spec returns returns_2)
