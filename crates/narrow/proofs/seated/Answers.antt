use Rattle.domain.specs.Empty.{keeps_none}
use Rattle.task.specs.Plan.{PlanOf}
use Rattle.narrow.proofs.seated.Goals as goal

pub returns-then-hopeless : goal.returns-then-hopeless
returns-then-hopeless c = keeps_none (PlanOf c.args.p) _ c.requires.ops_ok (c.hopeless-hopeless.ensures.yes c.if-hopeless.true)
