-- Reading a tree, step by step; and what a tree that was read is known of: its operations and edges are the sheet's,
-- and how many lines it has. Assumes nothing.
use Prim.Native.Nat.{ℕ, zero, suc, ◌+◌, ◌-◌, ◌≤◌, ◌<◌}
use native.Mathlib.Omega.{arith}
use Rattle.std.specs.Prelude.{◌≡◌, refl, Bool, true, false, cond, List, ltb}
use Rattle.std.proofs.Common.{sym}
use Rattle.std.proofs.Math.Path.{subst}
use borrow.Author.Tests.{lt-ltb, le-ltb, ltb-false}
use Rattle.denial.specs.Tree.{Cut, Leaf, Tree, leaf, cut, CutKnown, Known, lines}
use Rattle.tree_lines.specs.Node.{NodeRead, cutting, closing, malformed, on_node, node_of}
use Rattle.tree_lines.specs.NodeLaws.{NodeKnown, node_known}
use Rattle.tree_judge.specs.Reading.{most_lines, TreeRead, read, unread, on_tree, tree_from}

-- ---- one node

-- a cut c and its two parts, read one after the other by f from line k on
abbrev pub parts_from : (ℕ → List ℕ → TreeRead) → Cut → ℕ → List ℕ → TreeRead
parts_from f c k rest =
    on_tree (f k rest) (λ x l rest'. on_tree (f l rest') (λ y l' rest''. read (cut c x y) l' rest''))

module _ (n m d k : ℕ) (bs : List ℕ) where
  pub too_many : most_lines < k → tree_from n m d k bs ≡ unread k
  unfolding tree_from
  too_many h = at d
    where
      at : (e : ℕ) → tree_from n m e k bs ≡ unread k
      at zero = rw (lt-ltb most_lines k h)
      at (suc e) = rw (lt-ltb most_lines k h)

  module _ (h : k ≤ most_lines) where
    pub no_node : node_of n m bs ≡ malformed → tree_from n m d k bs ≡ unread k
    unfolding tree_from
    no_node e = at d
      where
        at : (x : ℕ) → tree_from n m x k bs ≡ unread k
        at zero = rw (le-ltb most_lines k h, e)
        at (suc x) = rw (le-ltb most_lines k h, e)

    pub one_leaf : (x : Leaf) (rest : List ℕ) → node_of n m bs ≡ closing x rest
        → tree_from n m d k bs ≡ read (leaf x) (suc k) rest
    unfolding tree_from
    one_leaf x rest e = at d
      where
        at : (y : ℕ) → tree_from n m y k bs ≡ read (leaf x) (suc k) rest
        at zero = rw (le-ltb most_lines k h, e)
        at (suc y) = rw (le-ltb most_lines k h, e)

    pub too_deep : (c : Cut) (rest : List ℕ) → d ≡ 0 → node_of n m bs ≡ cutting c rest → tree_from n m d k bs ≡ unread k
    unfolding tree_from
    too_deep c rest z e = subst (λ (y : ℕ). tree_from n m y k bs ≡ unread k) (sym z) at
      where
        at : tree_from n m 0 k bs ≡ unread k
        at = rw (le-ltb most_lines k h, e)

    pub one_cut : (c : Cut) (rest : List ℕ) → 0 < d → node_of n m bs ≡ cutting c rest
        → tree_from n m d k bs ≡ parts_from (tree_from n m (d - 1)) c (suc k) rest
    unfolding tree_from
    one_cut c rest p e = at d p
      where
        at : (y : ℕ) → 0 < y → tree_from n m y k bs ≡ parts_from (tree_from n m (y - 1)) c (suc k) rest
        at zero q = absurd (omega arith)
        at (suc y) q = let z : suc y - 1 ≡ y = omega arith in rw (z, le-ltb most_lines k h, e)

-- ---- what a tree that was read is known of

-- its operations are below n and its edges below m; it has as many lines as lie between its first and the line after
-- it; and none of them is past the most
abbrev pub Sized : ℕ → ℕ → ℕ → TreeRead → Type 0
Sized n m k (read t l rest) = Known n m t × ((l ≡ k + lines t) × (l ≤ most_lines + 1))
Sized n m k (unread l) = Unit {0}

module _ (n m : ℕ) where
  sized_second : (k : ℕ) (c : Cut) (x : Tree) (l : ℕ) → CutKnown n c → Known n m x → l ≡ suc k + lines x
      → (y : TreeRead) → Sized n m l y → Sized n m k (on_tree y (λ z l' rest. read (cut c x z) l' rest))
  unfolding Known lines
  sized_second k c x l h p e (read y l' rest) q = ((h, (p, q.0)), (omega (arith, q.1.0), q.1.1))
  sized_second k c x l h p e (unread l') q = tt

  sized_parts : (f : ℕ → List ℕ → TreeRead) → ((l : ℕ) (rest : List ℕ) → Sized n m l (f l rest)) → (k : ℕ) (c : Cut)
      → CutKnown n c → (x : TreeRead) → Sized n m (suc k) x
      → Sized n m k (on_tree x (λ y l rest. on_tree (f l rest) (λ z l' rest'. read (cut c y z) l' rest')))
  sized_parts f h k c w (read x l rest) q = sized_second k c x l w q.0 q.1.0 (f l rest) (h l rest)
  sized_parts f h k c w (unread l) q = tt

  sized_leaf : (k : ℕ) → k ≤ most_lines → (f : Cut → List ℕ → TreeRead)
      → ((c : Cut) (rest : List ℕ) → CutKnown n c → Sized n m k (f c rest))
      → (x : NodeRead) → NodeKnown n m x → Sized n m k (on_node x f (λ y rest. read (leaf y) (suc k) rest) (unread k))
  unfolding Known lines
  sized_leaf k h f g (cutting c rest) p = g c rest p
  sized_leaf k h f g (closing y rest) p = (p, (omega arith, omega arith))
  sized_leaf k h f g malformed p = tt

  sized_line : (k : ℕ) (y : TreeRead) → (k ≤ most_lines → Sized n m k y)
      → Sized n m k (cond (ltb most_lines k) (unread k) y)
  sized_line k y f = at (ltb most_lines k) refl
    where
      at : (b : Bool) → ltb most_lines k ≡ b → Sized n m k (cond b (unread k) y)
      at true e = tt
      at false e = f (ltb-false most_lines k e)

  pub tree_sized : (d k : ℕ) (bs : List ℕ) → Sized n m k (tree_from n m d k bs)
  unfolding tree_from
  tree_sized zero k bs =
      sized_line k _ (λ h. sized_leaf k h (λ c rest. unread k) (λ c rest p. tt) (node_of n m bs) (node_known n m bs))
  tree_sized (suc d) k bs =
      sized_line k _ (λ h.
      sized_leaf k h (λ c rest. parts_from (tree_from n m d) c (suc k) rest)
      (λ c rest p.
      sized_parts (tree_from n m d) (tree_sized d) k c p (tree_from n m d (suc k) rest) (tree_sized d (suc k) rest))
      (node_of n m bs) (node_known n m bs))

  -- of a tree
  pub read_sized : (d k : ℕ) (bs : List ℕ) {t : Tree} {l : ℕ} {rest : List ℕ} → tree_from n m d k bs ≡ read t l rest
      → Known n m t × ((l ≡ k + lines t) × (l ≤ most_lines + 1))
  read_sized d k bs e = subst (Sized n m k) e (tree_sized d k bs)
