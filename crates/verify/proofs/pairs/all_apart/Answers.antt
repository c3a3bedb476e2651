use Rattle.std.proofs.Common.{arith, below_more}
use Rattle.laws.specs.Says.{yes_says, no_says}
use Rattle.verify.proofs.pairs.all_apart.Goals as goal

pub returns-then-not-apart : goal.returns-then-not-apart
returns-then-not-apart c = no_says (λ all. c.apart.ensures.no c.if-not-apart.true (all c.loop-i.i c.loop-i-test.true))

pub loop-i-preserved : goal.loop-i-preserved
loop-i-preserved c = below_more _ _ c.loop-i.invariant (c.apart.ensures.yes c.if-not-apart.false)

pub returns : goal.returns
returns c = yes_says (λ i h. c.loop-i.invariant i (omega arith))
