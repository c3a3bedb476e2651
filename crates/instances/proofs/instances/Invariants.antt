use Rattle.laws.specs.Entry.{vec}
use Rattle.instances.specs.Seats.{SeatsTo}
use Rattle.instances.proofs.instances.Given as goal

abbrev pub invariant-loop-number : goal.invariant-loop-number
invariant-loop-number l = SeatsTo l.count (vec l.fn.resource) (vec l.limits) (vec l.busy) l.interval (vec l.fn.starts) (vec l.u) l.number
