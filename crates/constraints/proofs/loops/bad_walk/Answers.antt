use Rattle.std.proofs.Common.{refl}
use Rattle.dependence.specs.Answer.{walk_four, walk_five, walk_none}
use Rattle.dependence.specs.Step.{refusal, no_bad}
use Rattle.constraints.proofs.Settling.{when_some}
use Rattle.constraints.proofs.loops.bad_walk.Goals as goal

pub returns-then-not-interval_ok : goal.returns-then-not-interval_ok
returns-then-not-interval_ok c =
    let n = c.in_range.ensures.yes c.if-not-in_range.false in
    let z = c.without_loop-then-not-interval_ok.ensures in
    walk_four z.0 z.1 z.2 n (c.interval_ok.ensures.no c.if-not-interval_ok.true)

pub returns-then-is_some : goal.returns-then-is_some
returns-then-is_some c =
    let n = c.in_range.ensures.yes c.if-not-in_range.false in
    let v = c.interval_ok.ensures.yes c.if-not-interval_ok.false in
    let s = when_some c.settle.result _ _ c.is_some.result c.is_some.ensures c.if-is_some.true c.settle.ensures in
    let z = c.without_loop-then-is_some.ensures in
    walk_none z.0 z.1 z.2 n v (no_bad _ _ _ c.net_of-net.ensures.1 s.1.earliest.meets)

pub returns : goal.returns
returns c =
    let n = c.in_range.ensures.yes c.if-not-in_range.false in
    let v = c.interval_ok.ensures.yes c.if-not-interval_ok.false in
    walk_five refl n v (refusal _ _ c.net_of-net.ensures.1 c.first_bad-w.ensures)
