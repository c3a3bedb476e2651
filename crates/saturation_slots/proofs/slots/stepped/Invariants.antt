use Rattle.std.proofs.Common.{◌≡◌, ℕ, ◌<◌, length}
use Rattle.sizes.specs.Sizes.{most_operations}
use Rattle.laws.specs.Entry.{vec}
use Rattle.domain.specs.Domain.{has, row_of}
use Rattle.saturation_slots.specs.Saturation.{StepOne}
use Rattle.saturation_slots.proofs.slots.stepped.Given as goal

abbrev pub invariant-loop-i : goal.invariant-loop-i
invariant-loop-i l = (length l.out ≡ most_operations) × ((k : ℕ) → k < l.i → StepOne (has (row_of l.z k) l.s) l.case.interval (vec l.reach k) (vec l.out k))
