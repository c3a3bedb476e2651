use Rattle.std.proofs.Common.{◌≤◌, ◌*◌}
use Rattle.sizes.specs.Sizes.{most_intervals}
use Rattle.seats.specs.SeatingLaws.{RoomyTo}
use Rattle.seats.proofs.room.Given as goal

abbrev pub invariant-loop-v : goal.invariant-loop-v
invariant-loop-v l = (l.c ≤ l.v * (3 * most_intervals)) × RoomyTo l.case l.seats l.v l.c
