-- The line of a node whose operations and edges the sheet has reads as that node, and bytes that read as a node begin
-- with its line. Assumes nothing.
use Rattle.std.specs.Prelude.{◌≡◌, true, List, [], ◌∷◌, ◌++◌, ℕ, suc, ◌≤◌, ltb, ℤ, pos}
use Rattle.std.proofs.Math.Path.{refl}
use Rattle.std.proofs.Common.{subst, ◌∙◌, arith}
use borrow.Author.Tests.{lt-ltb}
use Rattle.laws.specs.Tests.{by_test}
use Rattle.text.specs.Keys.{loop_key}
use Rattle.text.specs.Lines.{line_text_of}
use Rattle.text.specs.Sizes.{four_digits}
use Rattle.text.specs.Text.{line_text}
use Rattle.scan.specs.Line.{stripped}
use Rattle.scan_list.specs.List.{most_items, Listed, listed, unlisted, on_listed, list_of}
use Rattle.scan_list.specs.ListLaws.{small_more, reads_list, ListRead, list_text}
use Rattle.denial.specs.Tree.{Cut, split, seat, Leaf, loop, late, clash, Below, none, more, CutKnown, LeafKnown}
use Rattle.tree_lines.specs.Node.{split_key, seat_key, late_key, clash_key, most_chained}
use Rattle.tree_lines.specs.Node.{NodeRead, cutting, closing, malformed, both, all_below}
use Rattle.tree_lines.specs.Node.{cut_of, loop_of, late_of, clash_of, node_of}
use Rattle.tree_lines.specs.NodeLaws.{node_split, node_seat, node_loop, node_late, node_clash}
use Rattle.tree_lines.specs.NodeLaws.{NodeKnown, node_known}
use Rattle.tree_lines.specs.Text.{cut_line, leaf_line, CutFits, LeafFits}

-- ---- the line of a node reads as that node

-- a line with another key
module _ (vs : List ℤ) (rest : List ℕ) where
  seat_no_split : list_of split_key 2 (line_text seat_key vs ++ rest) ≡ unlisted
  unfolding list_of stripped line_text
  seat_no_split = refl

  loop_no_split : list_of split_key 2 (line_text loop_key vs ++ rest) ≡ unlisted
  unfolding list_of stripped line_text
  loop_no_split = refl

  loop_no_seat : list_of seat_key 2 (line_text loop_key vs ++ rest) ≡ unlisted
  unfolding list_of stripped line_text
  loop_no_seat = refl

  late_no_split : list_of split_key 2 (line_text late_key vs ++ rest) ≡ unlisted
  unfolding list_of stripped line_text
  late_no_split = refl

  late_no_seat : list_of seat_key 2 (line_text late_key vs ++ rest) ≡ unlisted
  unfolding list_of stripped line_text
  late_no_seat = refl

  late_no_loop : list_of loop_key most_chained (line_text late_key vs ++ rest) ≡ unlisted
  unfolding list_of stripped line_text
  late_no_loop = refl

  clash_no_split : list_of split_key 2 (line_text clash_key vs ++ rest) ≡ unlisted
  unfolding list_of stripped line_text
  clash_no_split = refl

  clash_no_seat : list_of seat_key 2 (line_text clash_key vs ++ rest) ≡ unlisted
  unfolding list_of stripped line_text
  clash_no_seat = refl

  clash_no_loop : list_of loop_key most_chained (line_text clash_key vs ++ rest) ≡ unlisted
  unfolding list_of stripped line_text
  clash_no_loop = refl

  clash_no_late : list_of late_key most_items (line_text clash_key vs ++ rest) ≡ unlisted
  unfolding list_of stripped line_text
  clash_no_late = refl

-- a line with two numbers
reads_two : (key : List ℕ) (i j : ℕ) (rest : List ℕ) → i ≤ four_digits → j ≤ four_digits
    → list_of key 2 (line_text key (pos i ∷ pos j ∷ []) ++ rest) ≡ listed (i ∷ j ∷ []) rest
reads_two key i j rest h k =
    reads_list key 2 (i ∷ j ∷ []) rest (omega arith) (omega arith)
    (small_more (j ∷ []) h (small_more [] k (λ _. omega arith)))

all_below_lem : {m : ℕ} {ks : List ℕ} → Below m ks → all_below m ks ≡ true
unfolding all_below
all_below_lem none = refl
all_below_lem {m} (more {k} h b) = rw (lt-ltb k m h) (all_below_lem b)

module _ (n m : ℕ) (rest : List ℕ) where
  pub reads_cut : (c : Cut) → CutKnown n c → CutFits c → node_of n m (line_text_of (cut_line c) ++ rest) ≡ cutting c rest
  unfolding CutKnown cut_of
  reads_cut (split i v) k f =
      node_split n m _ (reads_two split_key i v rest f.0 f.1) ∙ rw (lt-ltb i n k)
  reads_cut (seat i u) k f =
      node_seat n m _ (seat_no_split _ rest) (reads_two seat_key i u rest f.0 f.1) ∙ rw (lt-ltb i n k)

  pub reads_leaf : (x : Leaf) → LeafKnown n m x → LeafFits x
      → node_of n m (line_text_of (leaf_line x) ++ rest) ≡ closing x rest
  unfolding LeafKnown loop_of late_of clash_of
  reads_leaf (loop ks) k f =
      node_loop n m _ (loop_no_split _ rest) (loop_no_seat _ rest)
      (reads_list loop_key most_chained ks rest f.1 f.2 f.0)
      ∙ rw (all_below_lem k)
  reads_leaf (late i ks) k f =
      node_late n m _ (late_no_split _ rest) (late_no_seat _ rest) (late_no_loop _ rest)
      (reads_list late_key most_items (i ∷ ks) rest (omega arith) (omega (arith, f.2)) (small_more ks f.0 f.1))
      ∙ rw (lt-ltb i n k.0, all_below_lem k.1)
  reads_leaf (clash i j) k f =
      node_clash n m _ (clash_no_split _ rest) (clash_no_seat _ rest) (clash_no_loop _ rest) (clash_no_late _ rest)
      (reads_two clash_key i j rest f.0 f.1)
      ∙ rw (lt-ltb i n k.0, lt-ltb j n k.1)

-- ---- bytes that read as a node begin with its line

-- what a node that was read says of the bytes that it was read from, what is known of it aside
abbrev Spelled : List ℕ → NodeRead → Type 0
Spelled bs (cutting c rest) = (bs ≡ line_text_of (cut_line c) ++ rest) × CutFits c
Spelled bs (closing x rest) = (bs ≡ line_text_of (leaf_line x) ++ rest) × LeafFits x
Spelled bs malformed = Unit {0}

spells_cut : (f : ℕ → ℕ → Cut) (key : List ℕ) (n : ℕ) (bs vs rest : List ℕ)
    → ((i v : ℕ) → bs ≡ line_text key (pos i ∷ pos v ∷ []) ++ rest → i ≤ four_digits → v ≤ four_digits
    → Spelled bs (cutting (f i v) rest))
    → ListRead key 2 bs vs rest → Spelled bs (cut_of f n vs rest)
unfolding cut_of
spells_cut f key n bs [] rest is r = tt
spells_cut f key n bs (i ∷ []) rest is r = tt
spells_cut f key n bs (i ∷ v ∷ []) rest is r =
    by_test (ltb i n) (λ t. rw t (is i v r.text (r.small 0) (r.small 1))) (λ t. rw t tt)
spells_cut f key n bs (i ∷ v ∷ w ∷ vs) rest is r = tt

spells_loop : (m : ℕ) (bs vs rest : List ℕ) → ListRead loop_key most_chained bs vs rest → Spelled bs (loop_of m vs rest)
unfolding loop_of
spells_loop m bs vs rest r =
    by_test (all_below m vs) (λ t. rw t (r.text, (r.small, r.some, r.few))) (λ t. rw t tt)

spells_late : (n m : ℕ) (bs vs rest : List ℕ) → ListRead late_key most_items bs vs rest → Spelled bs (late_of n m vs rest)
unfolding late_of
spells_late n m bs [] rest r = tt
spells_late n m bs (i ∷ ks) rest r =
    by_test (both (ltb i n) (all_below m ks))
    (λ t. rw t (r.text, (r.small 0, (λ j. r.small (suc j)), omega (arith, r.few))))
    (λ t. rw t tt)

spells_clash : (n : ℕ) (bs vs rest : List ℕ) → ListRead clash_key 2 bs vs rest → Spelled bs (clash_of n vs rest)
unfolding clash_of
spells_clash n bs [] rest r = tt
spells_clash n bs (i ∷ []) rest r = tt
spells_clash n bs (i ∷ j ∷ []) rest r =
    by_test (both (ltb i n) (ltb j n)) (λ t. rw t (r.text, (r.small 0, r.small 1))) (λ t. rw t tt)
spells_clash n bs (i ∷ j ∷ k ∷ ks) rest r = tt

-- the line of one key, or what the keys after it make of the bytes
spells_by : (key : List ℕ) (k : ℕ) (bs : List ℕ) (f : List ℕ → List ℕ → NodeRead) (o : NodeRead)
    → ((vs rest : List ℕ) → ListRead key k bs vs rest → Spelled bs (f vs rest)) → Spelled bs o
    → Spelled bs (on_listed (list_of key k bs) f o)
spells_by key k bs f o g h = at (list_of key k bs) refl
  where
    at : (x : Listed) → list_of key k bs ≡ x → Spelled bs (on_listed x f o)
    at (listed vs rest) e = g vs rest (list_text key k bs vs rest e)
    at unlisted e = h

spells : (n m : ℕ) (bs : List ℕ) → Spelled bs (node_of n m bs)
unfolding node_of
spells n m bs =
    spells_by split_key 2 bs (cut_of split n) _
    (λ vs rest. spells_cut split split_key n bs vs rest (λ i v t h k. (t, (h, k))))
    (spells_by seat_key 2 bs (cut_of seat n) _
    (λ vs rest. spells_cut seat seat_key n bs vs rest (λ i v t h k. (t, (h, k))))
    (spells_by loop_key most_chained bs (loop_of m) _ (spells_loop m bs)
    (spells_by late_key most_items bs (late_of n m) _ (spells_late n m bs)
    (spells_by clash_key 2 bs (clash_of n) malformed (spells_clash n bs) tt))))

-- what a node that was read says of the bytes that it was read from
pub record CutRead (n : ℕ) (bs : List ℕ) (c : Cut) (rest : List ℕ) : Type 0 where
  pub text : bs ≡ line_text_of (cut_line c) ++ rest
  pub fits : CutFits c
  pub known : CutKnown n c

pub record LeafRead (n m : ℕ) (bs : List ℕ) (x : Leaf) (rest : List ℕ) : Type 0 where
  pub text : bs ≡ line_text_of (leaf_line x) ++ rest
  pub fits : LeafFits x
  pub known : LeafKnown n m x

module _ (n m : ℕ) (bs rest : List ℕ) where
  pub cut_text : (c : Cut) → node_of n m bs ≡ cutting c rest → CutRead n bs c rest
  cut_text c e =
      let s = subst (Spelled bs) e (spells n m bs) in
      record { text = s.0; fits = s.1; known = subst (NodeKnown n m) e (node_known n m bs) }

  pub leaf_text : (x : Leaf) → node_of n m bs ≡ closing x rest → LeafRead n m bs x rest
  leaf_text x e =
      let s = subst (Spelled bs) e (spells n m bs) in
      record { text = s.0; fits = s.1; known = subst (NodeKnown n m) e (node_known n m bs) }
