use Rattle.std.proofs.Common.{◌≡◌, true, ℕ, ◌<◌, ◌+◌}
use Rattle.domain.specs.Domain.{has}
use Rattle.saturation_slots.proofs.slots.add_block.Given as goal

abbrev pub invariant-loop-s : goal.invariant-loop-s
invariant-loop-s l =
    ((k : ℕ) → has l.fn.seen k ≡ true → has l.seen k ≡ true)
    × ((k : ℕ) → k < l.s → has l.row (l.base + k) ≡ true → has l.seen k ≡ true)
