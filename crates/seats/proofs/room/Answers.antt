-- One instance after the other.
use Rattle.std.proofs.Common.{arith}
use Rattle.seats.specs.SeatingLaws.{roomy_none, roomy_more, roomy_all}
use Rattle.seats.proofs.room.Goals as goal

pub loop-v-init : goal.loop-v-init
loop-v-init c = (omega arith, roomy_none _ _)

pub loop-v-preserved : goal.loop-v-preserved
loop-v-preserved c = (omega (arith, c.loop-v.invariant.0, c.one_room-c.ensures.1), roomy_more c.args.case c.args.seats c.requires.0 c.one_room-c.ensures.0 c.loop-v.invariant.1)

pub returns : goal.returns
returns c = roomy_all c.args.case c.args.seats (omega arith) c.loop-v.invariant.1
