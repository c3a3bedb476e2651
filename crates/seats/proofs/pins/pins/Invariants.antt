use Rattle.std.proofs.Common.{◌≡◌, ℕ, ◌≤◌, ◌<◌, length, eqb}
use Rattle.sizes.specs.Sizes.{most_operations, most_intervals}
use Rattle.laws.specs.Entry.{vec}
use Rattle.domain.specs.Domain.{row_of}
use Rattle.seats.specs.Seating.{PinOf}
use Rattle.seats.proofs.pins.pins.Given as goal

abbrev pub invariant-loop-i : goal.invariant-loop-i
invariant-loop-i l = (length l.pin ≡ most_operations) × ((j : ℕ) → j < most_operations → vec l.pin j ≤ most_intervals) × ((j : ℕ) → j < l.i → PinOf (eqb (vec l.resource j) l.kind) (row_of l.d j) l.interval (vec l.pin j))
