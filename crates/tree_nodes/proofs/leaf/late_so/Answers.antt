-- Both ends of the chain are operations, and their starts are small.
use Rattle.std.proofs.Common.{pos, ◌+ℤ◌, ◌<ℤ◌, subst, arith}
use Rattle.laws.specs.Z.{kept}
use Rattle.laws.specs.Says.{Says, no_says}
use Rattle.sheet.specs.Facts.{ops_most}
use Rattle.tree_boxes.specs.Within.{within_fits}
use Rattle.tree_boxes.specs.Bounds.{box_of, left_at}
use Rattle.tree_nodes.specs.Leaves.{late_not, late_says}
use Rattle.tree_nodes.proofs.leaf.late_so.Goals as goal

pub returns-in-Some : goal.returns-in-Some
returns-in-Some c =
    let w = c.in-Some.w in
    let f = c.in-Some.ensures in
    let few = ops_most c.requires.in_range.0 in
    let high = (c.requires.in_range.2 w.end (omega (arith, f.near.end))).highest in
    late_says c.args.sheet c.args.interval (box_of c.args.b) f
    (subst (λ z. Says (z <ℤ (pos (left_at c.args.b c.args.i).lowest +ℤ w.sum)) c.exceeds.result) (kept {z = (left_at c.args.b w.end).highest} (within_fits (omega arith) high))
    (rw (kept {z = w.sum} (within_fits (omega arith) f.near.sum)) at c.exceeds.ensures))

pub returns-in-None : goal.returns-in-None
returns-in-None c = no_says (late_not c.args.sheet c.args.interval (box_of c.args.b) c.in-None.ensures)
