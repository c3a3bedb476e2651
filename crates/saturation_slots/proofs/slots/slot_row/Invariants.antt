use Rattle.std.proofs.Common.{◌≡◌, true, ℕ, ◌<◌, ◌%◌}
use Rattle.sizes.specs.Sizes.{most_starts}
use Rattle.domain.specs.Domain.{has}
use Rattle.saturation_slots.proofs.slots.slot_row.Given as goal

abbrev pub invariant-loop-base : goal.invariant-loop-base
invariant-loop-base l = (l.base % l.interval ≡ 0) × ((k : ℕ) → k < l.base → k < most_starts → has l.row k ≡ true → has l.seen (k % l.interval) ≡ true)
