use Rattle.std.proofs.Common.{◌≡◌, false, ℕ, ◌<◌}
use Rattle.domain.specs.Domain.{has, row_of}
use Rattle.colouring.proofs.twins.same_column.Given as goal

abbrev pub invariant-loop-k : goal.invariant-loop-k
invariant-loop-k l = (j : ℕ) → j < l.k → has l.done j ≡ false → has (row_of l.table j) l.v ≡ has (row_of l.table j) l.w
