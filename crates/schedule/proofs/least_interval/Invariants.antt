use Rattle.std.proofs.Common.{◌≤◌, ◌+◌, ◌-◌}
use Rattle.schedule.specs.Served.{NoneBelow}
use Rattle.schedule.proofs.least_interval.Given as goal

abbrev pub invariant-loop-interval : goal.invariant-loop-interval
invariant-loop-interval l = (1 ≤ l.interval) × (l.interval ≤ l.cap + 1) × NoneBelow l.sheet l.interval

abbrev pub decreases-loop-interval : goal.decreases-loop-interval
decreases-loop-interval l = l.cap + 1 - l.interval
