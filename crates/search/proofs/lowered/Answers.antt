use Rattle.std.proofs.Common.{◌<◌, length, refl, rules}
use Rattle.domain.specs.First.{lower_done, lower_least}
use Rattle.task.specs.Plan.{PlanOf}
use Rattle.search.proofs.lowered.Goals as goal

pub returns-in_default : goal.returns-in_default
returns-in_default c =
    let a = c.args in
    let within : a.i < length a.d = search rules in
    lower_done (PlanOf a.p) _ a.d a.i c.loop-best.best within c.requires.1 c.below.ensures c.loop-best.invariant.1 c.in_default.ensures refl

-- the domain has no start of i below this one
pub returns : goal.returns
returns c = lower_least (PlanOf c.args.p) _ c.requires.1 c.loop-best.invariant.1 c.least-low.ensures c.loop-best-test.false
