use Rattle.std.proofs.Common.{◌≡◌, ℕ, ◌<◌, length}
use Rattle.sizes.specs.Sizes.{most_operations}
use Rattle.domain.specs.Domain.{row_of}
use Rattle.colouring.specs.Parts.{ClearRow}
use Rattle.colouring.proofs.clear.clear_table.Given as goal

abbrev pub invariant-loop-k : goal.invariant-loop-k
invariant-loop-k l = (length l.table ≡ most_operations) × ((j : ℕ) → j < l.k → ClearRow l.q.count l.q.edges.now l.done l.colours j (row_of l.table j))
