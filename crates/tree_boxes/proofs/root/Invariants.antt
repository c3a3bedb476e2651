-- The places below i hold what is left at the root, the others nothing.
use Rattle.tree_boxes.specs.Root.{Rooted}
use Rattle.tree_boxes.proofs.root.Given as goal

abbrev pub invariant-loop-i : goal.invariant-loop-i
invariant-loop-i l = Rooted l.sheet l.i l.each
