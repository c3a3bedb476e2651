use Rattle.std.proofs.Common.{◌≡◌, ℕ, ◌<◌, length}
use Rattle.sizes.specs.Sizes.{most_operations}
use Rattle.laws.specs.Entry.{vec}
use Rattle.laws.specs.Says.{Says}
use Rattle.domain.specs.Domain.{has}
use Rattle.held_slots.specs.Seated.{Clash}
use Rattle.instances.proofs.clash_row.Given as goal

abbrev pub invariant-loop-j : goal.invariant-loop-j
invariant-loop-j l = (length l.row ≡ most_operations) × ((m : ℕ) → m < l.j → Says (Clash (vec l.ops.resource.now) (vec l.ops.starts.now) l.ops.interval l.kind.busy l.kind.number l.i m) (has l.row m))
