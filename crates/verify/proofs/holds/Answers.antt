-- The rules among all operations are those of a plan.
use Rattle.laws.specs.Tests.{last}
use Rattle.verify.specs.BrokenLaws.{plan_up_to, up_to_plan}
use Rattle.verify.proofs.holds.Goals as goal

pub returns : goal.returns
returns c = last c.kept_up_to.ensures (up_to_plan c.requires.0) plan_up_to
