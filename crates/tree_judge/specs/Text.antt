-- The lines of a tree: a cut's own before those of its two parts; and the trees that they can show.
use Rattle.std.specs.Prelude.{List, [], ◌∷◌, ◌++◌}
use Rattle.text.specs.Lines.{Line}
use Rattle.denial.specs.Tree.{Tree, leaf, cut}
use Rattle.tree_lines.specs.Text.{cut_line, leaf_line, CutFits, LeafFits}

unfoldable pub tree_lines : Tree → List Line
tree_lines (leaf x) = leaf_line x ∷ []
tree_lines (cut c x y) = cut_line c ∷ (tree_lines x ++ tree_lines y)

-- no number of more than four digits, and no chain or walk with more than the most edges
unfoldable pub TreeFits : Tree → Type 0
TreeFits (leaf x) = LeafFits x
TreeFits (cut c x y) = CutFits c × (TreeFits x × TreeFits y)
