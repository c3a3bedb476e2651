use Rattle.std.proofs.Common.{◌≡◌, true, rules}
use Rattle.task.specs.Plan.{PlanOf}
use Rattle.task.specs.PlanLaws.{plan_local}
use Rattle.search_steps.specs.StepLaws.{all_pinned}
use Rattle.search_steps.proofs.view.look.Goals as goal

pub returns-in-None : goal.returns-in-None
returns-in-None c =
    let full : c.started.result ≡ true = search rules in
    all_pinned c.least_starts-x.ensures c.started.ensures full (PlanOf c.args.p) (plan_local _ c.requires) c.in-None.ensures (c.is_plan.ensures.no c.if-is_plan.false)
