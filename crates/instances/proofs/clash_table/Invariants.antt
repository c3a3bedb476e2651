use Rattle.std.proofs.Common.{◌≡◌, ℕ, ◌<◌, length}
use Rattle.sizes.specs.Sizes.{most_operations}
use Rattle.laws.specs.Entry.{vec}
use Rattle.domain.specs.Domain.{row_of}
use Rattle.instances.specs.Seats.{ClashRow}
use Rattle.instances.proofs.clash_table.Given as goal

abbrev pub invariant-loop-i : goal.invariant-loop-i
invariant-loop-i l = (length l.c ≡ most_operations) × ((m : ℕ) → m < l.i → ClashRow l.ops.count (vec l.ops.resource.now) (vec l.ops.starts.now) l.ops.interval l.kind.busy l.kind.number m (row_of l.c m))
