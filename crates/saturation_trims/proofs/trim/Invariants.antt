use Rattle.saturation_slots.specs.Saturation.{Trimmed}
use Rattle.saturation_trims.proofs.trim.Given as goal

abbrev pub invariant-loop-w : goal.invariant-loop-w
invariant-loop-w l = Trimmed l.bar l.s l.interval l.fn.row l.row
