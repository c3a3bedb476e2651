-- The edges are followed from where the first one begins.
use Rattle.std.proofs.Common.{arith, pos, ne_eqb}
use Rattle.laws.specs.Z.{kept}
use Rattle.laws.specs.Says.{no_says}
use Rattle.sheet.specs.Facts.{from_below}
use Rattle.tree_boxes.specs.Within.{within_fits}
use Rattle.tree_nodes.specs.Chain.{front, below_first}
use Rattle.tree_nodes.specs.Leaves.{less_says, loop_not, loop_open, loop_says}
use Rattle.tree_nodes.proofs.leaf.loop_so.Goals as goal

pub chained-requires-clause-in_range : goal.chained-requires-clause-in_range
chained-requires-clause-in_range c =
    let p = c.requires.in_range in
    (p.0, p.1, from_below p.0 _ (below_first (front 0 c.args.edges.now p.2) c.requires.below))

pub returns-else-w-e : goal.returns-else-w-e
returns-else-w-e c =
    let v = front 0 c.args.edges.now c.requires.in_range.2 in
    rw (ne_eqb _ _ c.if-w-e.false) (no_says (loop_open v c.in-Some.ensures c.if-w-e.false))

pub returns-in-None : goal.returns-in-None
returns-in-None c = no_says (loop_not (front 0 c.args.edges.now c.requires.in_range.2) c.in-None.ensures)

pub returns-then-w-e : goal.returns-then-w-e
returns-then-w-e c =
    let v = front 0 c.args.edges.now c.requires.in_range.2 in
    let w = c.in-Some.w in
    rw (kept {z = w.sum} (within_fits (omega arith) c.in-Some.ensures.near.sum))
    (loop_says v c.in-Some.ensures c.if-w-e.true (less_says (pos 0) w.sum))
