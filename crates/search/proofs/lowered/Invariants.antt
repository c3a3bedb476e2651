use Rattle.std.proofs.Common.{◌≡◌, length}
use Rattle.sizes.specs.Sizes.{most_operations}
use Rattle.laws.specs.Entry.{vec}
use Rattle.domain.specs.First.{Good}
use Rattle.task.specs.Plan.{PlanOf}
use Rattle.search.proofs.lowered.Given as goal

abbrev pub invariant-loop-best : goal.invariant-loop-best
invariant-loop-best l = (length l.best ≡ most_operations) × Good (PlanOf l.p) l.p.ops l.d l.best

abbrev pub decreases-loop-best : goal.decreases-loop-best
decreases-loop-best l = vec l.best l.i
