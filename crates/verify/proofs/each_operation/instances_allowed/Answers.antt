use Rattle.laws.specs.Says.{no_says}
use Rattle.verify.proofs.each_operation.instances_allowed.Goals as goal

pub returns-then-not-instance_allowed : goal.returns-then-not-instance_allowed
returns-then-not-instance_allowed c =
    no_says (λ all. c.instance_allowed.ensures.no c.if-not-instance_allowed.true (all c.loop-i.i c.loop-i-test.true))
