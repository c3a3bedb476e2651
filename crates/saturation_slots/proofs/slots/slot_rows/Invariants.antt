use Rattle.std.proofs.Common.{◌≡◌, ℕ, ◌<◌, length}
use Rattle.sizes.specs.Sizes.{most_operations}
use Rattle.laws.specs.Entry.{vec}
use Rattle.domain.specs.Domain.{row_of}
use Rattle.saturation_slots.specs.Saturation.{SlotRow}
use Rattle.saturation_slots.proofs.slots.slot_rows.Given as goal

abbrev pub invariant-loop-i : goal.invariant-loop-i
invariant-loop-i l = (length l.z ≡ most_operations) × ((k : ℕ) → k < l.i → vec l.resource k ≡ l.kind → SlotRow l.interval (row_of l.d k) (row_of l.z k))
