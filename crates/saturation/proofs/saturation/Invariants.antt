use Rattle.domain.specs.Domain.{Keeps}
use Rattle.task.specs.Plan.{PlanOf}
use Rattle.saturation.proofs.saturation.Given as goal

abbrev pub invariant-loop-kind : goal.invariant-loop-kind
invariant-loop-kind l = Keeps (PlanOf l.p) l.p.ops l.fn.d l.d
