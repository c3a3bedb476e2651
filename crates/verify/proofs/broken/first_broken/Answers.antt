use Rattle.verify.specs.Broken.{first}
use Rattle.verify.proofs.broken.first_broken.Goals as goal

pub returns-then-not-kept_up_to : goal.returns-then-not-kept_up_to
returns-then-not-kept_up_to c =
    first (record {
      operation = c.loop-i-test.true;
      before = c.loop-i.invariant;
      with = c.kept_up_to-in-loop-i.ensures.no c.if-not-kept_up_to.true;
    })
