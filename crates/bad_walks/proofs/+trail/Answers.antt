use Rattle.std.proofs.Common.{[], get_or, ◌-◌, arith}
use Rattle.std.proofs.lemmas.Bool.{some_since}
use Rattle.laws.specs.Entry.{at}
use Rattle.laws.specs.Z.{kept}
use Rattle.walks.specs.Back.{row_bounded}
use Rattle.walks.specs.Trail.{middle, some_edge, sum_fits, sum_kept, trail_next, trail_done, trail_sum, trailed_sum}
use Rattle.bad_walks.proofs.+trail.Goals as goal

pub pick-requires : goal.pick-requires
pick-requires t c =
    let w = get_or c.args.back (c.args.left - 1) [] in
    let tr = c.requires.0 in
    rw (kept c.ranges.s) (tr.net, row_bounded tr.net (c.args.left - 1) c.args.v (omega (arith, tr.room)) w (λ x h. c.requires.1.rows _ (omega arith) x h), middle tr)

pub unwrap-e-requires : goal.unwrap-e-requires
unwrap-e-requires t c =
    let w = at (get_or c.args.back (c.args.left - 1) []) in
    let said = rw (kept c.ranges.s) at c.pick.ensures in
    some_since c.pick.result _ _ said (some_edge c.requires.0 c.if-left-eq0.false w (λ x h. c.requires.1.rows _ (omega arith) x h))

pub overflow_add-s : goal.overflow_add-s
overflow_add-s t c =
    let p = rw c.unwrap-e.ensures at c.pick.ensures in
    let k = sum_fits c.unwrap-e.result c.requires.0 p.within in
    rw (kept c.ranges.s, kept k.0) k.1

pub trail-requires : goal.trail-requires
trail-requires t c =
    let e = c.unwrap-e.result in
    let w = at (get_or c.args.back (c.args.left - 1) []) in
    let p = rw (c.unwrap-e.ensures, kept c.ranges.s) at c.pick.ensures in
    let next = trail_next c.requires.0 c.if-left-eq0.false w (λ x h. c.requires.1.rows _ (omega arith) x h) e p in
    (omega arith, (trail_sum (sum_kept e c.requires.0 p.within c.ranges.s) next, record { rows = λ r h. c.requires.1.rows r (omega arith) }))

pub returns : goal.returns
returns t c =
    let e = c.unwrap-e.result in
    let w = at (get_or c.args.back (c.args.left - 1) []) in
    let p = rw (c.unwrap-e.ensures, kept c.ranges.s) at c.pick.ensures in
    trail_done c.requires.0 c.if-left-eq0.false w (λ x h. c.requires.1.rows _ (omega arith) x h) e p c.trail.result
    (trailed_sum (sum_kept e c.requires.0 p.within c.ranges.s) c.trail.ensures)
