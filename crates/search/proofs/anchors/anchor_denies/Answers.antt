use Rattle.search.specs.StageLaws.{anchor_none}
use Rattle.search.proofs.anchors.anchor_denies.Goals as goal

pub returns : goal.returns
returns c = anchor_none _ c.search-f.result.answer c.search-f.ensures.answer c.denies.ensures c.args.i c.args.cluster c.requires.0 c.requires.1 c.requires.2 c.anchored-q.ensures c.anchor_rows-d.ensures
