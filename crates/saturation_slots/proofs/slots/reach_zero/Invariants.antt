use Rattle.std.proofs.Common.{◌≡◌, ℕ, ◌<◌, length}
use Rattle.sizes.specs.Sizes.{most_operations}
use Rattle.laws.specs.Entry.{vec}
use Rattle.domain.specs.Domain.{row_of}
use Rattle.saturation_slots.specs.Saturation.{FarRow}
use Rattle.saturation_slots.proofs.slots.reach_zero.Given as goal

abbrev pub invariant-loop-i : goal.invariant-loop-i
invariant-loop-i l = (length l.reach ≡ most_operations) × ((k : ℕ) → k < l.i → FarRow l.case.interval (row_of l.z k) (vec l.reach k))
