use Rattle.std.proofs.Common.{◌≡◌, true, ℕ, ◌<◌}
use Rattle.domain.specs.Domain.{has}
use Rattle.saturation_slots.proofs.slots.add_slots.Given as goal

abbrev pub invariant-loop-b : goal.invariant-loop-b
invariant-loop-b l =
    ((k : ℕ) → has l.fn.used k ≡ true → has l.used k ≡ true)
    × ((k : ℕ) → k < l.b → has l.slots k ≡ true → has l.used k ≡ true)
