use Rattle.relax.proofs.Anchor.{anchored}
use Rattle.anchor.proofs.anchored.Goals as goal

pub returns : goal.returns
returns c = anchored c.args.p c.requires.0 c.args.i c.requires.1 c.args.c c.requires.2 _ _ _ c.inner_types-q.ensures c.inner_lags-q.ensures
