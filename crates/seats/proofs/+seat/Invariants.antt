use Rattle.std.proofs.Common.{◌-◌, ◌*◌}
use Rattle.sizes.specs.Sizes.{most_operations, most_intervals}
use Rattle.seats.specs.Seating.{Left}
use Rattle.seats.proofs.+seat.Given as goal

-- the keys grow
abbrev pub decreases-seat : goal.decreases-seat
decreases-seat l = most_intervals * most_operations - l.from

-- each instance before v was tried
abbrev pub invariant-loop-v : goal.invariant-loop-v
invariant-loop-v l = Left l.case l.from l.seats l.x l.v
