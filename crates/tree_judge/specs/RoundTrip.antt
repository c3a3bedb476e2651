-- The lines of a tree whose operations and edges the sheet has read as that tree, if it is not too large; and bytes
-- that read as a tree begin with its lines. Assumes nothing.
use Prim.Native.Nat.{ℕ, zero, suc, ◌+◌, ◌-◌, ◌≤◌, ◌<◌}
use native.Mathlib.Omega.{arith}
use Rattle.std.specs.Prelude.{◌≡◌, refl, Bool, true, false, cond, ltb}
use Rattle.std.proofs.Math.Path.{sym, ap}
use Rattle.std.proofs.Common.{subst, ◌∙◌}
use mathlib.Core.List.{List, ◌++◌, append_assoc}
use Rattle.text.specs.Lines.{line_text_of, lines_text}
use Rattle.text.specs.Filling.{lines_append, one_line}
use Rattle.denial.specs.Tree.{Cut, Leaf, Tree, leaf, cut, Known, lines, depth}
use Rattle.tree_lines.specs.Node.{NodeRead, cutting, closing, malformed, on_node, node_of}
use Rattle.tree_lines.specs.Text.{cut_line, leaf_line}
use Rattle.tree_lines.specs.RoundTrip.{reads_cut, reads_leaf, CutRead, LeafRead, cut_text, leaf_text}
use Rattle.tree_judge.specs.Reading.{most_lines, TreeRead, read, unread, on_tree, tree_from}
use Rattle.tree_judge.specs.ReadingLaws.{parts_from, one_leaf, one_cut}
use Rattle.tree_judge.specs.Text.{tree_lines, TreeFits}

-- a cut's own line, then those of its parts
split_text : (c : Cut) (x y : Tree) (rest : List ℕ) → lines_text (tree_lines (cut c x y)) ++ rest
    ≡ line_text_of (cut_line c) ++ (lines_text (tree_lines x) ++ (lines_text (tree_lines y) ++ rest))
unfolding tree_lines lines_text
split_text c x y rest =
    ap (λ (bs : List ℕ). (line_text_of (cut_line c) ++ bs) ++ rest) (lines_append (tree_lines x) (tree_lines y))
    ∙ simp append_assoc

leaf_text_of : (x : Leaf) (rest : List ℕ) → lines_text (tree_lines (leaf x)) ++ rest ≡ line_text_of (leaf_line x) ++ rest
unfolding tree_lines
leaf_text_of x rest = ap (λ (bs : List ℕ). bs ++ rest) (one_line (leaf_line x))

-- ---- the lines of a tree read as that tree

some_lines : (t : Tree) → 0 < lines t
unfolding lines
some_lines (leaf x) = omega arith
some_lines (cut c x y) = omega arith

module _ (n m : ℕ) where
  pub reads_tree : (t : Tree) (d k : ℕ) (rest : List ℕ) → Known n m t → TreeFits t → depth t ≤ d
      → k + lines t ≤ most_lines + 1 → tree_from n m d k (lines_text (tree_lines t) ++ rest) ≡ read t (k + lines t) rest
  unfolding Known TreeFits lines depth
  reads_tree (leaf x) d k rest h f e l =
      let q : k + 1 ≡ suc k = omega arith in
      ap (tree_from n m d k) (leaf_text_of x rest)
      ∙ one_leaf n m d k (line_text_of (leaf_line x) ++ rest) (omega arith) x rest (reads_leaf n m rest x h f)
      ∙ ap (λ (j : ℕ). read (leaf x) j rest) (sym q)
  reads_tree (cut c x y) d k rest h f e l =
      let mid = lines_text (tree_lines y) ++ rest in
      let tail = lines_text (tree_lines x) ++ mid in
      let a = some_lines x in
      let b = some_lines y in
      let p : tree_from n m (d - 1) (suc k) tail ≡ read x (suc k + lines x) mid =
      reads_tree x (d - 1) (suc k) mid h.1.0 f.1.0 (omega arith) (omega arith) in
      let q : tree_from n m (d - 1) (suc k + lines x) mid ≡ read y (suc k + lines x + lines y) rest =
      reads_tree y (d - 1) (suc k + lines x) rest h.1.1 f.1.1 (omega arith) (omega arith) in
      let z : suc k + lines x + lines y ≡ k + suc (lines x + lines y) = omega arith in
      ap (tree_from n m d k) (split_text c x y rest)
      ∙ one_cut n m d k (line_text_of (cut_line c) ++ tail) (omega arith) c tail (omega arith)
      (reads_cut n m tail c h.0 f.0)
      ∙ rw (p, q, z)

-- ---- what reads as a tree is its lines

-- what a tree that was read, with at most d cuts above a leaf, says of the bytes that it was read from
abbrev Spelled : ℕ → List ℕ → TreeRead → Type 0
Spelled d bs (read t l rest) = (bs ≡ lines_text (tree_lines t) ++ rest) × (TreeFits t × (depth t ≤ d))
Spelled d bs (unread l) = Unit {0}

module _ (n m : ℕ) where
  spells_second : (d : ℕ) (bs rest mid : List ℕ) (c : Cut) (x : Tree) → CutRead n bs c rest
      → rest ≡ lines_text (tree_lines x) ++ mid → TreeFits x → depth x ≤ d → (y : TreeRead) → Spelled d mid y
      → Spelled (suc d) bs (on_tree y (λ z l tail. read (cut c x z) l tail))
  unfolding TreeFits depth
  spells_second d bs rest mid c x r e f h (read y l tail) q = (
    r.text
        ∙ ap (λ (z : List ℕ). line_text_of (cut_line c) ++ z)
        (e ∙ ap (λ (z : List ℕ). lines_text (tree_lines x) ++ z) q.0)
        ∙ sym (split_text c x y tail),
    ((r.fits, (f, q.1.0)), omega (arith, q.1.1)),
  )
  spells_second d bs rest mid c x r e f h (unread l) q = tt

  spells_parts : (f : ℕ → List ℕ → TreeRead) (d : ℕ) → ((l : ℕ) (mid : List ℕ) → Spelled d mid (f l mid))
      → (bs rest : List ℕ) (c : Cut) → CutRead n bs c rest → (x : TreeRead) → Spelled d rest x
      → Spelled (suc d) bs (on_tree x (λ y l mid. on_tree (f l mid) (λ z l' tail. read (cut c y z) l' tail)))
  spells_parts f d h bs rest c r (read x l mid) q =
      spells_second d bs rest mid c x r q.0 q.1.0 q.1.1 (f l mid) (h l mid)
  spells_parts f d h bs rest c r (unread l) q = tt

  spells_leaf : (d k : ℕ) (bs rest : List ℕ) (x : Leaf) → LeafRead n m bs x rest → Spelled d bs (read (leaf x) k rest)
  unfolding TreeFits depth
  spells_leaf d k bs rest x r = (r.text ∙ sym (leaf_text_of x rest), (r.fits, omega arith))

  spells_line : (d k : ℕ) (bs : List ℕ) (y : TreeRead) → Spelled d bs y
      → Spelled d bs (cond (ltb most_lines k) (unread k) y)
  spells_line d k bs y h = at (ltb most_lines k)
    where
      at : (b : Bool) → Spelled d bs (cond b (unread k) y)
      at true = tt
      at false = h

  spells_node : (d k : ℕ) (bs : List ℕ) (f : Cut → List ℕ → TreeRead)
      → ((c : Cut) (rest : List ℕ) → CutRead n bs c rest → Spelled d bs (f c rest)) → (x : NodeRead) → node_of n m bs ≡ x
      → Spelled d bs (on_node x f (λ y rest. read (leaf y) (suc k) rest) (unread k))
  spells_node d k bs f g (cutting c rest) e = g c rest (cut_text n m bs rest c e)
  spells_node d k bs f g (closing y rest) e = spells_leaf d (suc k) bs rest y (leaf_text n m bs rest y e)
  spells_node d k bs f g malformed e = tt

  spells : (d k : ℕ) (bs : List ℕ) → Spelled d bs (tree_from n m d k bs)
  unfolding tree_from
  spells zero k bs =
      spells_line zero k bs _ (spells_node zero k bs (λ c rest. unread k) (λ c rest r. tt) (node_of n m bs) refl)
  spells (suc d) k bs =
      spells_line (suc d) k bs _
      (spells_node (suc d) k bs (λ c rest. parts_from (tree_from n m d) c (suc k) rest)
      (λ c rest r.
      spells_parts (tree_from n m d) d (spells d) bs rest c r (tree_from n m d (suc k) rest) (spells d (suc k) rest))
      (node_of n m bs) refl)

  pub record TreeText (d : ℕ) (bs : List ℕ) (t : Tree) (rest : List ℕ) : Type 0 where
    pub text : bs ≡ lines_text (tree_lines t) ++ rest
    pub fits : TreeFits t
    pub deep : depth t ≤ d

  -- bytes that read as a tree begin with its lines
  pub tree_text : (d k : ℕ) (bs : List ℕ) {t : Tree} {l : ℕ} {rest : List ℕ} → tree_from n m d k bs ≡ read t l rest
      → TreeText d bs t rest
  tree_text d k bs e =
      let q = subst (Spelled d bs) e (spells d k bs) in
      record { text = q.0; fits = q.1.0; deep = q.1.1 }
