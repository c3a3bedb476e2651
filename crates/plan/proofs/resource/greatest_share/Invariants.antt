use Rattle.std.proofs.Common.{◌≡◌}
use Rattle.plan.specs.Resource.{greatest}
use Rattle.plan.specs.ResourceLaws.{share_at}
use Rattle.plan.proofs.resource.greatest_share.Given as goal

abbrev pub invariant-loop-r : goal.invariant-loop-r
invariant-loop-r l = l.most ≡ greatest l.r (share_at l.sheet)
