use Rattle.std.proofs.Common.{refl, rules}
use Rattle.walks.specs.Opening.{trail_begin, opened}
use Rattle.walks.specs.Trail.{trail_sum, trailed_sum}
use Rattle.bad_walks.proofs.walk_from.Goals as goal

pub trail-requires : goal.trail-requires
trail-requires c = (trail_sum (search rules) (trail_begin _ refl c.requires), (rw c.from.ensures at c.backs-back.ensures))

pub returns : goal.returns
returns c = opened c.trail.result c.requires (trailed_sum (search rules) c.trail.ensures)
