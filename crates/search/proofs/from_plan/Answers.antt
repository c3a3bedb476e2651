use Rattle.std.proofs.Common.{arith, rules}
use Rattle.domain.specs.First.{lead_keeps, lead_next}
use Rattle.task.specs.Plan.{PlanOf}
use Rattle.search.proofs.from_plan.Goals as goal

pub loop-i-preserved : goal.loop-i-preserved
loop-i-preserved c =
    let l = c.loop-i in
    let h = c.loop-i-test.true in
    (search rules, lead_keeps (PlanOf c.args.p) _ (omega (arith, h)) (lead_next (PlanOf c.args.p) _ (omega (arith, l.invariant.0, h, c.requires.0.ops_ok)) h l.invariant.1 c.lowered-y.ensures c.only.ensures) c.narrow-e.ensures)
