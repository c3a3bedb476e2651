use Rattle.std.proofs.Common.{replicate}
use Rattle.sizes.specs.Sizes.{most_operations}
use Rattle.laws.specs.Store.{all_zero}
use Rattle.instances.specs.SeatLaws.{seats_start, seats_next, seats_done}
use Rattle.instances.proofs.instances.Goals as goal

pub loop-number-init : goal.loop-number-init
loop-number-init c = seats_start _ _ _ _ _ _ (replicate most_operations 0) (all_zero most_operations)

pub loop-number-preserved : goal.loop-number-preserved
loop-number-preserved c = seats_next c.loop-number.invariant c.with_type-u.ensures

pub returns : goal.returns
returns c = seats_done c.loop-number.invariant c.loop-number-test.false
