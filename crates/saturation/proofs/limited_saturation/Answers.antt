use Rattle.std.proofs.Common.{arith}
use Rattle.domain.specs.Empty.{keeps_none}
use Rattle.task.specs.Plan.{PlanOf}
use Rattle.saturation_trims.specs.TrimLaws.{crowded_none}
use Rattle.saturation.proofs.limited_saturation.Goals as goal

pub returns-then-crowded : goal.returns-then-crowded
returns-then-crowded c =
    let q = c.requires in
    keeps_none (PlanOf c.args.p.now) _ q.0.ops_ok (λ t h _. crowded_none c.args.p.now c.args.kind q.0 q.1 (omega arith) c.count_of-most.ensures.0 c.crowded.ensures c.if-crowded.true t h)
