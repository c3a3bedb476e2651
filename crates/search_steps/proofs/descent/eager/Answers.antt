-- A plan outside the domain comes after everything in it.
use Rattle.std.proofs.Common.{◌≡◌, true, arith, rules}
use Rattle.domain.specs.First.{ahead_keeps, ahead_pin, ahead_least}
use Rattle.task.specs.Plan.{PlanOf}
use Rattle.search_steps.proofs.descent.eager.Goals as goal

pub returns-then-is_plan : goal.returns-then-is_plan
returns-then-is_plan c =
    let full : c.started.result ≡ true = search rules in
    ahead_least (PlanOf c.args.p) _ c.loop-i.invariant.1 c.least_starts-x.ensures (c.started.ensures.yes full) (c.is_plan.ensures.yes c.if-is_plan.true)

pub loop-i-preserved : goal.loop-i-preserved
loop-i-preserved c =
    let l = c.loop-i in
    let h = c.loop-i-test.true in
    let full : c.started.result ≡ true = search rules in (
      search rules,
      ahead_keeps (PlanOf c.args.p) _ (omega (arith, h))
          (ahead_pin (PlanOf c.args.p) _ (omega (arith, l.invariant.0, h, c.requires.ops_ok)) h l.invariant.1 (c.least_starts-x.ensures.least l.i h) (c.started.ensures.yes full l.i h) c.only.ensures)
          c.narrowed-e.ensures,
    )
