use Rattle.std.proofs.Common.{◌≡◌, length}
use Rattle.sizes.specs.Sizes.{most_operations}
use Rattle.domain.specs.First.{Lead}
use Rattle.task.specs.Plan.{PlanOf}
use Rattle.search.proofs.from_plan.Given as goal

-- the starts before i are settled, and the domain has only those
abbrev pub invariant-loop-i : goal.invariant-loop-i
invariant-loop-i l = (length l.d ≡ most_operations) × Lead (PlanOf l.p) l.p.ops l.fn.ok l.d l.i l.x
