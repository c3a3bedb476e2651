use Rattle.search.specs.StageLaws.{coarse_none}
use Rattle.search.proofs.stages.coarse_denies.Goals as goal

pub returns : goal.returns
returns c = coarse_none _ c.search-f.result.answer c.search-f.ensures.answer c.denies.ensures c.coarse-q.ensures
