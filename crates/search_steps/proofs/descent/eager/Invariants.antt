use Rattle.std.proofs.Common.{◌≡◌, length}
use Rattle.sizes.specs.Sizes.{most_operations}
use Rattle.domain.specs.First.{Ahead}
use Rattle.task.specs.Plan.{PlanOf}
use Rattle.search_steps.proofs.descent.eager.Given as goal

abbrev pub invariant-loop-i : goal.invariant-loop-i
invariant-loop-i l = (length l.d ≡ most_operations) × Ahead (PlanOf l.p) l.p.ops l.fn.ok l.d l.i
