use Rattle.std.proofs.Common.{◌<◌}
use Rattle.domain.specs.Domain.{Keeps}
use Rattle.task.specs.Plan.{PlanOf}
use Rattle.saturation_slots.specs.Saturation.{Reach}
use Rattle.saturation.proofs.type_saturation.Given as goal

abbrev pub invariant-loop-s : goal.invariant-loop-s
invariant-loop-s l = (l.s < l.p.interval → Reach l.p.ops l.p.interval l.s l.z l.reach) × Keeps (PlanOf l.p) l.p.ops l.fn.d l.d
