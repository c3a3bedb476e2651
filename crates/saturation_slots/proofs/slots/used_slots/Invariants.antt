use Rattle.std.proofs.Common.{◌≡◌, true, ℕ, ◌<◌}
use Rattle.sizes.specs.Sizes.{most_intervals}
use Rattle.laws.specs.Entry.{vec}
use Rattle.domain.specs.Domain.{has, row_of}
use Rattle.saturation_slots.proofs.slots.used_slots.Given as goal

abbrev pub invariant-loop-i : goal.invariant-loop-i
invariant-loop-i l = (k : ℕ) → k < l.i → vec l.case.resource.now k ≡ l.case.kind → (b : ℕ) → b < most_intervals → has (row_of l.z k) b ≡ true → has l.used b ≡ true
