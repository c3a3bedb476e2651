use Rattle.std.proofs.Common.{refl}
use Rattle.net.specs.Meets.{meets_none}
use Rattle.walks.specs.Separate.{cell_agree}
use Rattle.dependence.specs.Answer.{table_bad, table_found}
use Rattle.dependence.specs.Step.{to_cell, no_bad, some_bad}
use Rattle.constraints.proofs.Settling.{when_some, when_none}
use Rattle.constraints.proofs.separation.separations.Goals as goal

pub greatest-requires : goal.greatest-requires
greatest-requires c =
    let s = when_some c.settle.result _ _ c.is_some.result c.is_some.ensures c.if-is_some.true c.settle.ensures in
    (c.net_of-net.ensures.0, meets_none _ s.1.earliest.meets)

pub returns-then-is_some : goal.returns-then-is_some
returns-then-is_some c =
    let n = c.in_range.ensures.yes c.if-in_range.true in
    let v = c.interval_ok.ensures.yes c.if-interval_ok.true in
    let a = c.net_of-net.ensures.1 in
    let s = when_some c.settle.result _ _ c.is_some.result c.is_some.ensures c.if-is_some.true c.settle.ensures in
    table_found n v (no_bad _ _ _ a s.1.earliest.meets)
    (record { cells = λ i j hi hj. to_cell _ _ i j _ (cell_agree a i j _ (c.greatest.ensures.cells i j hi hj)) })

pub returns-else-is_some : goal.returns-else-is_some
returns-else-is_some c =
    let n = c.in_range.ensures.yes c.if-in_range.true in
    let v = c.interval_ok.ensures.yes c.if-interval_ok.true in
    let w = when_none c.settle.result _ _ c.is_some.result c.is_some.ensures c.if-is_some.false c.settle.ensures in
    table_bad refl n v w.0 (some_bad _ _ w.0 c.net_of-net.ensures.1 w.1)
