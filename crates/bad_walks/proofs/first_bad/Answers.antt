use Rattle.std.proofs.Common.{arith}
use Rattle.walks.specs.Table.{is_still, is_next, is_bounded}
use Rattle.walks.specs.Opening.{none_zero, none_more, none_short}
use Rattle.bad_walks.proofs.first_bad.Goals as goal

pub loop-e-init : goal.loop-e-init
loop-e-init c = let p = c.requires in
    (omega (arith, none_short p.0 none_zero p.1.0 p.1.1), is_still _ c.still-w.result c.still-w.ensures, none_zero)

pub first_edge-requires : goal.first_edge-requires
first_edge-requires c = let n = c.requires.0 in let l = c.loop-e in
    (n, is_bounded n l.k (omega (arith, n.ops_ok)) l.w l.invariant.1)

pub pass-next-requires : goal.pass-next-requires
pass-next-requires c = let n = c.requires.0 in let l = c.loop-e in
    (n, is_bounded n l.k (omega (arith, n.ops_ok)) l.w l.invariant.1)

pub loop-e-preserved : goal.loop-e-preserved
loop-e-preserved c =
    let p = c.requires in
    let l = c.loop-e in
    let more = none_more p.0 (omega (arith, p.0.ops_ok)) l.w l.invariant.1 l.invariant.2 c.in_default.ensures in
    (none_short p.0 more p.1.0 p.1.1, is_next p.0 l.k l.w c.pass-next.result l.invariant.1 c.pass-next.ensures, more)
