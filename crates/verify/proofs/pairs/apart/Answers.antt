use Rattle.laws.specs.Says.{no_says}
use Rattle.verify.proofs.pairs.apart.Goals as goal

pub returns-then-clash : goal.returns-then-clash
returns-then-clash c = no_says (λ all. all c.loop-j.j c.loop-j-test.true (c.clash.ensures.yes c.if-clash.true))
