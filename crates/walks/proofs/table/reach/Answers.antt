use Rattle.std.proofs.Common.{arith}
use Rattle.walks.specs.Table.{is_still, is_bounded, is_next}
use Rattle.walks.proofs.table.reach.Goals as goal

pub loop-edge-init : goal.loop-edge-init
loop-edge-init c = is_still _ c.still-w.result c.still-w.ensures

pub pass-next-requires : goal.pass-next-requires
pass-next-requires c = let n = c.requires.0 in
    (n, is_bounded n c.loop-edge._edge (omega arith) c.loop-edge.w c.loop-edge.invariant)

pub loop-edge-preserved : goal.loop-edge-preserved
loop-edge-preserved c = is_next c.requires.0 c.loop-edge._edge c.loop-edge.w c.pass-next.result c.loop-edge.invariant c.pass-next.ensures
