use Rattle.std.proofs.Common.{◌<◌, length, arith}
use Rattle.colouring.specs.Laws.{partial_more, left_tried, best_least}
use Rattle.colouring.proofs.least_at.Goals as goal
use Rattle.colouring.proofs.least_at.Goals.{then-worth+in_default, else-worth}

pub extend-requires : goal.extend-requires
extend-requires c =
    let s = c.args in
    let q = c.requires in
    let ld : s.node < length s.done.now = omega arith in
    let lu : s.node < length s.colours.now = omega arith in
    let lv : c.loop-colour.colour < s.q.limit = omega (arith, q.4.coloured.below s.node q.2) in
    (q.0, partial_more s.q.count s.q.edges.now s.q.limit q.0 s.done.now s.colours.now s.node c.loop-colour.colour q.2 q.3 ld lu lv (c.worth.ensures.clear c.if-worth.true s.q.edges.now s.colours.now c.clear_table-table.ensures) q.1)

pub loop-colour-preserved : goal.loop-colour-preserved
loop-colour-preserved c =
    let s = c.args in
    let q = c.requires in
    let ld : s.node < length s.done.now = omega arith in
    let lu : s.node < length s.colours.now = omega arith in
    let lv : c.loop-colour.colour < s.q.limit = omega (arith, q.4.coloured.below s.node q.2) in
    elim c.if-worth.branch [
      | then-worth+in_default w ↦ left_tried s.q.count s.q.edges.now s.q.limit q.0 s.done.now s.colours.now s.node c.loop-colour.colour q.2 q.3 ld lu c.loop-colour.invariant w.in_default.ensures
      | else-worth w ↦ c.worth.ensures.skip w.if-worth.false s.q.edges.now s.colours.now s.q.limit lv s.q.limit_ok q.0 c.clear_table-table.ensures c.loop-colour.invariant
    ]

pub returns : goal.returns
returns c = let s = c.args in best_least s.q.count s.q.edges.now s.q.limit c.requires.0 s.done.now s.colours.now c.requires.4 c.loop-colour.invariant c.loop-colour-test.false
