-- Two boxes that agree on the operations of a sheet: a tree that passes in the one passes in the other, and what is not
-- so in the one is not so in the other. Assumes nothing.
use Rattle.std.specs.Prelude.{◌≡◌, ℤ, pos, ◌+ℤ◌, ◌<ℤ◌}
use Rattle.std.proofs.Common.{sym, ap, ◌∙◌}
use Rattle.std.proofs.Math.Path.{subst}
use Prim.Native.Nat.{ℕ, ◌+◌, ◌<◌, max, min}
use Rattle.std.proofs.Math.Decide.{ℕ_discrete}
use Rattle.dependence.specs.Graph.{edge_at}
use Rattle.dependence.specs.Rules.{sum}
use Rattle.denial.specs.Box.{Box, changed, lesser, starts_to, starts_above, instances_to, instances_above}
use Rattle.denial.specs.BoxLaws.{which, changed_here, changed_other}
use Rattle.denial.specs.Tree.{Cut, split, seat, Leaf, loop, late, clash, Tree, leaf, cut}
use Rattle.denial.specs.Tree.{CutKnown, LeafKnown, Known}
use Rattle.denial.specs.Passes.{Rules, up_to, above, Pinned, OneStart, Clash, two, never, barred, So, Passes}
use Rattle.denial.specs.Fault.{FirstFalse, at_leaf, at_cut, in_first, in_second}
use Rattle.denial.specs.Sound.{ends}

-- two boxes are the same on the operations below n
pub record Agree (n : ℕ) (b c : Box) : Type 0 where
  pub lowest : (i : ℕ) → i < n → b.lowest i ≡ c.lowest i
  pub highest : (i : ℕ) → i < n → b.highest i ≡ c.highest i
  pub first : (i : ℕ) → i < n → b.first i ≡ c.first i
  pub last : (i : ℕ) → i < n → b.last i ≡ c.last i

pub agree_sym : {n : ℕ} {b c : Box} → Agree n b c → Agree n c b
agree_sym a = record {
  lowest = λ i h. sym (a.lowest i h);
  highest = λ i h. sym (a.highest i h);
  first = λ i h. sym (a.first i h);
  last = λ i h. sym (a.last i h);
}

module _ {A : Type 0} (n i : ℕ) (x y : A) (f g : ℕ → A) where
  same_changed : x ≡ y → ((j : ℕ) → j < n → f j ≡ g j) → (j : ℕ) → j < n → changed i x f j ≡ changed i y g j
  same_changed e s j h = which (ℕ_discrete j i)
      (λ q. subst (λ (k : ℕ). changed i x f k ≡ changed i y g k) (sym q)
      (changed_here i x f ∙ e ∙ sym (changed_here i y g)))
      (λ q. changed_other i x f j q ∙ s j h ∙ sym (changed_other i y g j q))

module _ {n : ℕ} {b c : Box} (a : Agree n b c) where
  agree_to : (k : Cut) → CutKnown n k → Agree n (up_to b k) (up_to c k)
  unfolding up_to CutKnown starts_to instances_to
  agree_to (split i v) h = record {
    lowest = a.lowest;
    highest = same_changed n i _ _ b.highest c.highest (ap (λ (z : ℤ). lesser z v) (a.highest i h)) a.highest;
    first = a.first;
    last = a.last;
  }
  agree_to (seat i v) h = record {
    lowest = a.lowest;
    highest = a.highest;
    first = a.first;
    last = same_changed n i _ _ b.last c.last (ap (λ (z : ℕ). min z v) (a.last i h)) a.last;
  }

  agree_above : (k : Cut) → CutKnown n k → Agree n (above b k) (above c k)
  unfolding above CutKnown starts_above instances_above
  agree_above (split i v) h = record {
    lowest = same_changed n i _ _ b.lowest c.lowest (ap (λ (z : ℕ). max z (v + 1)) (a.lowest i h)) a.lowest;
    highest = a.highest;
    first = a.first;
    last = a.last;
  }
  agree_above (seat i v) h = record {
    lowest = a.lowest;
    highest = a.highest;
    first = same_changed n i _ _ b.first c.first (ap (λ (z : ℕ). max z (v + 1)) (a.first i h)) a.first;
    last = a.last;
  }

  agree_one : (i : ℕ) → i < n → OneStart b i → OneStart c i
  agree_one i h e = ap pos (sym (a.lowest i h)) ∙ e ∙ a.highest i h

  agree_pinned : (i : ℕ) → i < n → Pinned b i → Pinned c i
  agree_pinned i h p = record {
    start = agree_one i h p.start;
    instance = sym (a.first i h) ∙ p.instance ∙ a.last i h;
  }

module _ (r : Rules) (to : (k : ℕ) → k < r.graph.edge_count → (edge_at r.graph k).to < r.ops) where
  agree_clash : {b c : Box} → Agree r.ops b c → (i j : ℕ) → i < r.ops → j < r.ops → Clash r b i j → Clash r c i j
  agree_clash {b} {c} a i j h k (two v p q e o) =
      two v (agree_pinned a i h p) (agree_pinned a j k q) (sym (a.first i h) ∙ e ∙ a.first j k)
      (subst (λ (x : ℕ). r.Overlap i x j (c.lowest j)) (a.lowest i h)
      (subst (λ (x : ℕ). r.Overlap i (b.lowest i) j x) (a.lowest j k) o))
  agree_clash a i j h k (never v) = never v
  agree_clash a i j h k (barred e v) = barred (agree_one a i h e) (subst (λ (x : ℕ). r.Barred i x) (a.lowest i h) v)

  agree_leaf : {b c : Box} → Agree r.ops b c → (x : Leaf) → LeafKnown r.ops r.graph.edge_count x
      → So r b x → So r c x
  unfolding So LeafKnown
  agree_leaf a (loop ks) h s = s
  agree_leaf {b} {c} a (late i ks) h s =
      let z = sum r.graph r.interval ks in
      let there = ends r.graph r.ops to h.0 s.chain in
      record {
        end = s.end;
        chain = s.chain;
        exceeds = subst (λ (x : ℕ). c.highest s.end <ℤ (pos x +ℤ z)) (a.lowest i h.0)
            (subst (λ (y : ℤ). y <ℤ (pos (b.lowest i) +ℤ z)) (a.highest s.end there) s.exceeds);
      }
  agree_leaf a (clash i j) h s = agree_clash a i j h.0 h.1 s

  -- a known tree that passes in a box passes in one that agrees
  pub passes_agree : {b c : Box} → Agree r.ops b c → (x : Tree) → Known r.ops r.graph.edge_count x
      → Passes r b x → Passes r c x
  unfolding Passes Known
  passes_agree {b = b} {c = c} a (leaf x) k s = agree_leaf a x k s
  passes_agree {b = b} {c = c} a (cut q x y) k s = (
    s.0,
    (
      passes_agree {b = up_to b q} {c = up_to c q} (agree_to a q k.0) x k.1.0 s.1.0,
      passes_agree {b = above b q} {c = above c q} (agree_above a q k.0) y k.1.1 s.1.1,
    ),
  )

  -- and so does the first line that is not so
  pub first_agree : {b c : Box} {x : Tree} {k l : ℕ} → Agree r.ops b c → Known r.ops r.graph.edge_count x
      → FirstFalse r b x k l → FirstFalse r c x k l
  unfolding Known
  first_agree {x = leaf x} a k (at_leaf n) = at_leaf (λ s. n (agree_leaf (agree_sym a) x k s))
  first_agree a k (at_cut n) = at_cut n
  first_agree {x = cut q x y} a k (in_first w f) = in_first w (first_agree (agree_to a q k.0) k.1.0 f)
  first_agree {x = cut q x y} a k (in_second w p f) =
      in_second w (passes_agree (agree_to a q k.0) x k.1.0 p) (first_agree (agree_above a q k.0) k.1.1 f)
