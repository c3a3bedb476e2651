-- The line of a node, and the nodes that a line can show.
use Rattle.std.specs.Prelude.{ℕ, ◌≤◌, ◌<◌, List, [], ◌∷◌, map, pos, length, get_or}
use Rattle.text.specs.Lines.{Line}
use Rattle.text.specs.Sizes.{four_digits}
use Rattle.text.specs.Answers.{loop_line}
use Rattle.denial.specs.Tree.{Cut, split, seat, Leaf, loop, late, clash}
use Rattle.tree_lines.specs.Node.{split_key, seat_key, late_key, clash_key, most_chained}

-- `split=i,v` or `seat=i,k`
abbrev pub cut_line : Cut → Line
cut_line (split i v) = record { key = split_key; values = pos i ∷ pos v ∷ [] }
cut_line (seat i k) = record { key = seat_key; values = pos i ∷ pos k ∷ [] }

-- `loop=` and edges, `late=i` and edges, or `clash=i,j`
abbrev pub leaf_line : Leaf → Line
leaf_line (loop ks) = loop_line ks
leaf_line (late i ks) = record { key = late_key; values = pos i ∷ map pos ks }
leaf_line (clash i j) = record { key = clash_key; values = pos i ∷ pos j ∷ [] }

-- ---- no number of more than four digits, one edge at least in a loop, and the most edges at most

abbrev pub Small : List ℕ → Type 0
Small ks = (i : ℕ) → get_or ks i 0 ≤ four_digits

abbrev pub CutFits : Cut → Type 0
CutFits (split i v) = (i ≤ four_digits) × (v ≤ four_digits)
CutFits (seat i k) = (i ≤ four_digits) × (k ≤ four_digits)

abbrev pub LeafFits : Leaf → Type 0
LeafFits (loop ks) = Small ks × (0 < length ks) × (length ks ≤ most_chained)
LeafFits (late i ks) = (i ≤ four_digits) × Small ks × (length ks ≤ most_chained)
LeafFits (clash i j) = (i ≤ four_digits) × (j ≤ four_digits)
