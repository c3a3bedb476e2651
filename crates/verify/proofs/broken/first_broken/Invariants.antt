use Rattle.laws.specs.Entry.{vec}
use Rattle.verify.specs.Broken.{PlanUpTo}
use Rattle.verify.proofs.broken.first_broken.Given as goal

abbrev pub invariant-loop-i : goal.invariant-loop-i
invariant-loop-i l = PlanUpTo l.sheet l.interval (vec l.starts) (vec l.instances) l.i
