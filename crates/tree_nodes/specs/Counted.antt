-- What is asked of a leaf's numbers. Assumes nothing.
use Rattle.std.specs.Prelude.{⊤, ◌<◌, ◌≤◌}
use Rattle.scan_list.specs.List.{most_items}
use Rattle.tree_lines.specs.declared.Leaf.{Leaf}
use Rattle.tree_lines.specs.declared.Leaf.TheVariants.{Loop, Late, Clash}
use Rattle.tree_lines.specs.Node.{LeafSmall}

-- a line of numbers has at least one, and no more than its array holds
abbrev pub Counted : Leaf → Type 0
Counted (Loop l) = (0 < l.count) × (l.count ≤ most_items)
Counted (Late l) = (0 < l.count) × (l.count ≤ most_items)
Counted (Clash i j) = ⊤

-- the numbers of a leaf that was read are
pub counted : (x : Leaf) → LeafSmall x → Counted x
counted (Loop l) f = (f.some, f.count)
counted (Late l) f = (f.some, f.count)
counted (Clash i j) f = tt
