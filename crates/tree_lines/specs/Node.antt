-- The line of a node of a denial's tree: its key, its numbers, and that the sheet has its operations and its edges.
use Rattle.std.specs.Prelude.{ℕ, ◌≤◌, ◌<◌, ◌≡◌, List, [], ◌∷◌, Bool, true, false, cond, ltb, length, drop, take, get_or, Option, None, Some}
use Rattle.text.specs.Sizes.{four_digits}
use Rattle.text.specs.Keys.{loop_key}
use Rattle.scan_list.specs.List.{most_items, on_listed, list_of}
use Rattle.denial.specs.Tree.{Cut, split, seat, Leaf, loop, late, clash}
use Rattle.tree_lines.specs.declared.Cut as code
use Rattle.tree_lines.specs.declared.Cut.TheVariants.{Split, Seat}
use Rattle.tree_lines.specs.declared.Leaf as code_leaf
use Rattle.tree_lines.specs.declared.Leaf.TheVariants.{Loop, Late, Clash}
use Rattle.tree_lines.specs.declared.Node.{Node}
use Rattle.tree_lines.specs.declared.Node.TheVariants.{Cutting, Closing}
use Rattle.tree_lines.specs.declared.NodeLine.{NodeLine}
use Rattle.tree_lines.specs.declared.Numbers.{Numbers}

-- `split=`
abbrev pub split_key : List ℕ
split_key = 115 ∷ 112 ∷ 108 ∷ 105 ∷ 116 ∷ 61 ∷ []

-- `seat=`
abbrev pub seat_key : List ℕ
seat_key = 115 ∷ 101 ∷ 97 ∷ 116 ∷ 61 ∷ []

-- `late=`
abbrev pub late_key : List ℕ
late_key = 108 ∷ 97 ∷ 116 ∷ 101 ∷ 61 ∷ []

-- `clash=`
abbrev pub clash_key : List ℕ
clash_key = 99 ∷ 108 ∷ 97 ∷ 115 ∷ 104 ∷ 61 ∷ []

-- the most edges of a chain or a walk
abbrev pub most_chained : ℕ
most_chained = 24

-- ---- the bytes

-- a node and what follows its line, or that the bytes begin with none
pub data NodeRead : Type 0 where
  cutting : Cut → List ℕ → NodeRead
  closing : Leaf → List ℕ → NodeRead
  malformed : NodeRead

-- f of a cut, g of a leaf and of what follows its line, or o where there is none
abbrev pub on_node : {A : Type 0} → NodeRead → (Cut → List ℕ → A) → (Leaf → List ℕ → A) → A → A
on_node (cutting c rest) f g o = f c rest
on_node (closing x rest) f g o = g x rest
on_node malformed f g o = o

-- both flags
abbrev pub both : Bool → Bool → Bool
both a b = cond a b false

-- each number is below m
unfoldable pub all_below : ℕ → List ℕ → Bool
all_below m [] = true
all_below m (k ∷ ks) = cond (ltb k m) (all_below m ks) false

-- `split=i,v` or `seat=i,k`: two numbers, and i is below n
unfoldable pub cut_of : (ℕ → ℕ → Cut) → ℕ → List ℕ → List ℕ → NodeRead
cut_of f n [] rest = malformed
cut_of f n (i ∷ []) rest = malformed
cut_of f n (i ∷ v ∷ []) rest = cond (ltb i n) (cutting (f i v) rest) malformed
cut_of f n (i ∷ v ∷ w ∷ vs) rest = malformed

-- `loop=` with edges below m
unfoldable pub loop_of : ℕ → List ℕ → List ℕ → NodeRead
loop_of m ks rest = cond (all_below m ks) (closing (loop ks) rest) malformed

-- `late=i` with i below n, and edges below m or none
unfoldable pub late_of : ℕ → ℕ → List ℕ → List ℕ → NodeRead
late_of n m [] rest = malformed
late_of n m (i ∷ ks) rest = cond (both (ltb i n) (all_below m ks)) (closing (late i ks) rest) malformed

-- `clash=i,j`: two numbers below n
unfoldable pub clash_of : ℕ → List ℕ → List ℕ → NodeRead
clash_of n [] rest = malformed
clash_of n (i ∷ []) rest = malformed
clash_of n (i ∷ j ∷ []) rest = cond (both (ltb i n) (ltb j n)) (closing (clash i j) rest) malformed
clash_of n (i ∷ j ∷ k ∷ ks) rest = malformed

-- the node whose line the bytes begin with, of a sheet with n operations and m edges
unfoldable pub node_of : ℕ → ℕ → List ℕ → NodeRead
node_of n m bs =
    on_listed (list_of split_key 2 bs) (λ vs rest. cut_of split n vs rest)
    (on_listed (list_of seat_key 2 bs) (λ vs rest. cut_of seat n vs rest)
    (on_listed (list_of loop_key most_chained bs) (λ vs rest. loop_of m vs rest)
    (on_listed (list_of late_key most_items bs) (λ vs rest. late_of n m vs rest)
    (on_listed (list_of clash_key 2 bs) (λ vs rest. clash_of n vs rest)
    malformed))))

-- ---- what is found at a place of the bytes s

-- the numbers of a line
abbrev pub numbers_of : Numbers → List ℕ
numbers_of l = take l.count l.values

-- the cut
abbrev pub cut_seen : code.Cut → Cut
cut_seen (Split i v) = split i v
cut_seen (Seat i k) = seat i k

-- the leaf
abbrev pub leaf_seen : code_leaf.Leaf → Leaf
leaf_seen (Loop l) = loop (numbers_of l)
leaf_seen (Late l) = late (get_or l.values 0 0) (drop 1 (numbers_of l))
leaf_seen (Clash i j) = clash i j

-- the node, with these bytes after its line
abbrev pub node_seen : Node → List ℕ → NodeRead
node_seen (Cutting c) rest = cutting (cut_seen c) rest
node_seen (Closing x) rest = closing (leaf_seen x) rest

-- a node and the bytes from the place after its line on, or that there is none
abbrev pub seen_node : List ℕ → Option NodeLine → NodeRead
seen_node s (Some r) = node_seen r.node (drop r.next s)
seen_node s None = malformed

-- numbers of a line are within the array and have at most four digits; past them there are zeros
pub record NumbersFit (l : Numbers) : Type 0 where
  pub whole : length l.values ≡ most_items
  pub count : l.count ≤ most_items
  pub some : 0 < l.count
  pub small : (i : ℕ) → get_or l.values i 0 ≤ four_digits
  pub past : (i : ℕ) → l.count ≤ i → get_or l.values i 0 ≡ 0

-- two numbers of at most four digits
abbrev pub PairFits : ℕ → ℕ → Type 0
PairFits i v = (i ≤ four_digits) × (v ≤ four_digits)

abbrev pub CutSmall : code.Cut → Type 0
CutSmall (Split i v) = PairFits i v
CutSmall (Seat i k) = PairFits i k

abbrev pub LeafSmall : code_leaf.Leaf → Type 0
LeafSmall (Loop l) = NumbersFit l
LeafSmall (Late l) = NumbersFit l
LeafSmall (Clash i j) = PairFits i j

abbrev pub NodeSmall : Node → Type 0
NodeSmall (Cutting c) = CutSmall c
NodeSmall (Closing x) = LeafSmall x

-- the place after the line lies within s, and the numbers of the node are small
pub record NodeFits (s : List ℕ) (r : NodeLine) : Type 0 where
  pub next : r.next ≤ length s
  pub node : NodeSmall r.node
