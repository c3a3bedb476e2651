use Rattle.relax.specs.Coarse.{coarse_relaxed}
use Rattle.relax.proofs.coarse.Goals as goal

pub returns : goal.returns
returns c = coarse_relaxed c.args.p c.requires.0 c.args.m c.requires.1 c.requires.2 _ c.limits-q.ensures
