use Rattle.domain.specs.Domain.{Keeps}
use Rattle.task.specs.Plan.{PlanOf}
use Rattle.narrow.proofs.narrow.Given as goal

abbrev pub invariant-loop : goal.invariant-loop
invariant-loop l = Keeps (PlanOf l.p) l.p.ops l.fn.ok l.d
