use Rattle.std.proofs.Common.{◌<◌, length, arith}
use Rattle.colouring.specs.Laws.{bare_less, partial_more, left_tried, used_up}
use Rattle.colouring.proofs.+extend.Goals as goal
use Rattle.colouring.proofs.+extend.Goals.{then-worth+in_default-extend, else-worth}

pub extend-requires : goal.extend-requires
extend-requires t c =
    let s = c.args in
    let o = c.in-Some in
    let ld : o.node < length s.done.now = omega (arith, o.ensures.0) in
    let lu : o.node < length s.colours.now = omega (arith, o.ensures.0) in (
      omega (arith, bare_less s.q.count s.q.edges.now s.q.limit c.requires.0 s.done.now s.colours.now o.node 0 o.ensures.0 o.ensures.1 ld lu),
      (
        c.requires.0,
        partial_more s.q.count s.q.edges.now s.q.limit c.requires.0 s.done.now s.colours.now o.node c.loop-colour.colour o.ensures.0 o.ensures.1 ld lu c.loop-colour-test.true (c.worth.ensures.clear c.if-worth.true s.q.edges.now s.colours.now c.clear_table-table.ensures) c.requires.1,
      ),
    )

pub loop-colour-preserved : goal.loop-colour-preserved
loop-colour-preserved t c =
    let s = c.args in
    let o = c.in-Some in
    let ld : o.node < length s.done.now = omega (arith, o.ensures.0) in
    let lu : o.node < length s.colours.now = omega (arith, o.ensures.0) in
    elim c.if-worth.branch [
      | then-worth+in_default-extend w ↦ left_tried s.q.count s.q.edges.now s.q.limit c.requires.0 s.done.now s.colours.now o.node c.loop-colour.colour o.ensures.0 o.ensures.1 ld lu c.loop-colour.invariant w.in_default-extend.ensures
      | else-worth w ↦ c.worth.ensures.skip w.if-worth.false s.q.edges.now s.colours.now s.q.limit c.loop-colour-test.true s.q.limit_ok c.requires.0 c.clear_table-table.ensures c.loop-colour.invariant
    ]

pub returns : goal.returns
returns t c = let s = c.args in used_up s.q.count s.q.edges.now s.q.limit c.requires.0 s.done.now s.colours.now c.in-Some.ensures.0 c.loop-colour.invariant c.loop-colour-test.false
