use Rattle.std.proofs.Common.{refl, arith}
use Rattle.dependence.specs.Answer.{bound_found}
use Rattle.dependence.specs.Step.{more_bad, no_bad, some_bad}
use Rattle.constraints.proofs.Settling.{when_some, when_none}
use Rattle.constraints.proofs.bound.recurrence_bound.Goals as goal

-- there is no interval below 1
pub loop-l-init : goal.loop-l-init
loop-l-init c = λ i a b. absurd (omega (arith, a, b))

pub returns-then-is_some : goal.returns-then-is_some
returns-then-is_some c =
    let n = c.in_range.ensures.yes c.if-in_range.true in
    let v = c.interval_ok.ensures.yes c.if-interval_ok.true in
    let s = when_some c.settle.result _ _ c.is_some.result c.is_some.ensures c.if-is_some.true c.settle.ensures in
    bound_found refl n v (omega arith) (omega arith) (no_bad _ _ _ c.net_of-net.ensures.1 s.1.earliest.meets) c.loop-l.invariant

pub loop-l-preserved : goal.loop-l-preserved
loop-l-preserved c =
    let w = when_none c.settle.result _ _ c.is_some.result c.is_some.ensures c.if-is_some.false c.settle.ensures in
    more_bad c.args.graph c.loop-l.l c.loop-l.invariant (w.0, some_bad _ _ w.0 c.net_of-net.ensures.1 w.1)
