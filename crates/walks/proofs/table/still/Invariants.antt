use Rattle.std.proofs.Common.{◌≡◌, ℕ, ◌<◌, length}
use Rattle.sizes.specs.Sizes.{most_operations}
use Rattle.laws.specs.Entry.{cell}
use Rattle.walks.specs.Table.{still_z}
use Rattle.walks.proofs.table.still.Given as goal

abbrev pub invariant-loop-u : goal.invariant-loop-u
invariant-loop-u l = (length l.row-items ≡ most_operations) × ((u v : ℕ) → u < l.u → v < most_operations → cell l.row-items u v ≡ still_z u v)
