use Rattle.std.proofs.Common.{◌≡◌, is_some}
use Rattle.domain.specs.Split.{size, count, Left}
use Rattle.task.specs.Plan.{PlanOf}
use Rattle.search.proofs.+search.Given as goal

-- each call has fewer allowed starts
abbrev pub decreases-search : goal.decreases-search
decreases-search l = size l.p.ops l.ok

-- the classes that were tried have no plan
abbrev pub invariant-classes : goal.invariant-classes
invariant-classes l = (is_some l.rest ≡ is_some l.fn.budget) × Left (PlanOf l.p) l.p.ops l.d l.i l.row

abbrev pub decreases-classes : goal.decreases-classes
decreases-classes l = count l.row
