use Rattle.laws.specs.Entry.{vec}
use Rattle.saturation_slots.specs.Saturation.{Drained}
use Rattle.saturation_trims.proofs.drained.Given as goal

abbrev pub invariant-loop-i : goal.invariant-loop-i
invariant-loop-i l = Drained l.case.ops (vec l.case.resource.now) l.case.kind l.s l.case.interval l.bar l.fn.d l.d
