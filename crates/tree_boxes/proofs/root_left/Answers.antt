-- Each part is what the box at the root has.
use Rattle.laws.specs.Z.{kept, fits32}
use Rattle.denial.specs.At.{highest_at}
use Rattle.tree_boxes.proofs.root_left.Goals as goal

pub returns : goal.returns
unfolding highest_at
returns c =
    rw (kept {z = c.highest_of.result} (fits32 c.highest_of.type_inv), c.highest_of.ensures, c.saturating_sub.ensures)
