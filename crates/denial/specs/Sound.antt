-- A tree that passes leaves no plan in its box. Assumes nothing.
use Rattle.std.specs.Prelude.{ℕ, ◌<◌, ◌≡◌, List, ℤ, pos, ◌+ℤ◌, ◌≤ℤ◌}
use Rattle.std.proofs.Common.{arith, sym, subst, ◌∙◌}
use Rattle.std.proofs.Math.Decide.{dec_lt}
use Rattle.laws.specs.Z.{zed}
use Rattle.laws.specs.Z as z
use Rattle.dependence.specs.declared.Graph.{Graph}
use Rattle.dependence.specs.Graph.{edge_at, total}
use Rattle.dependence.specs.Rules.{Meets, Chain, here, step, sum, BadWalk}
use Rattle.denial.specs.Box.{Box, Inside}
use Rattle.denial.specs.BoxLaws.{which, in_starts_to, in_starts_above, in_instances_to, in_instances_above}
use Rattle.denial.specs.Tree.{split, seat, Leaf, loop, late, clash, Tree, leaf, cut}
use Rattle.denial.specs.Tree.{CutKnown, LeafKnown, Known}
use Rattle.denial.specs.Passes.{Rules, Keeps, up_to, above, OneStart, Late, Clash, two, never, barred, So, Passes}

-- starts that meet every dependence grow by at least a chain's sum
pub along : (g : Graph) (L : ℕ) (t : ℕ → ℤ) → Meets g L t → {i j : ℕ} {ks : List ℕ} → Chain g i ks j
    → (t i +ℤ sum g L ks) ≤ℤ t j
unfolding sum
along g L t m {i} here = omega (arith, zed, z.sum (t i) (pos 0))
along g L t m (step {k} {j} {ks} l c) =
    omega (
      arith,
      zed,
      m.met k l,
      along g L t m c,
      z.sum (t (edge_at g k).from) (total g L k +ℤ sum g L ks),
      z.sum (total g L k) (sum g L ks),
      z.sum (t (edge_at g k).from) (total g L k),
      z.sum (t (edge_at g k).to) (sum g L ks),
    )

-- a chain ends at an operation
pub ends : (g : Graph) (n : ℕ) → ((k : ℕ) → k < g.edge_count → (edge_at g k).to < n)
    → {i j : ℕ} {ks : List ℕ} → i < n → Chain g i ks j → j < n
ends g n to h here = h
ends g n to h (step {k} l c) = ends g n to (to k l) c

module _ (r : Rules) (to : (k : ℕ) → k < r.graph.edge_count → (edge_at r.graph k).to < r.ops) (t u : ℕ → ℕ)
    (keeps : Keeps r t u) where
  abbrev starts : ℕ → ℤ
  starts i = pos (t i)

  -- the only start left is the plan's
  one_start : (b : Box) (i : ℕ) → i < r.ops → Inside r.ops b t u → OneStart b i → b.lowest i ≡ t i
  one_start b i h p e = omega (arith, zed, p.low i h, p.high i h)

  one_instance : (b : Box) (i : ℕ) → i < r.ops → Inside r.ops b t u → b.first i ≡ b.last i → b.first i ≡ u i
  one_instance b i h p e = omega (arith, p.first i h, p.last i h)

  not_late : (b : Box) (i : ℕ) (ks : List ℕ) → i < r.ops → Inside r.ops b t u → Late r b i ks → ⊥
  not_late b i ks h p l =
      omega (
        arith,
        zed,
        l.exceeds,
        along r.graph r.interval starts keeps.dependence l.chain,
        p.low i h,
        p.high l.end (ends r.graph r.ops to h l.chain),
        z.sum (pos (t i)) (sum r.graph r.interval ks),
        z.sum (pos (b.lowest i)) (sum r.graph r.interval ks),
      )

  no_loop : (ks : List ℕ) → BadWalk r.graph r.interval ks → ⊥
  no_loop ks w =
      omega (
        arith,
        zed,
        w.positive,
        along r.graph r.interval starts keeps.dependence w.chain,
        z.sum (pos (t w.at)) (sum r.graph r.interval ks),
      )

  no_clash : (b : Box) (i j : ℕ) → i < r.ops → j < r.ops → Inside r.ops b t u → Clash r b i j → ⊥
  no_clash b i j h k p (two v q q' e o) =
      keeps.apart i j h k v (sym (one_instance b i h p q.instance) ∙ e ∙ one_instance b j k p q'.instance)
      (subst (λ (x : ℕ). r.Overlap i (t i) j x) (one_start b j k p q'.start)
      (subst (λ (x : ℕ). r.Overlap i x j (b.lowest j)) (one_start b i h p q.start) o))
  no_clash b i j h k p (never v) = keeps.ever i h v
  no_clash b i j h k p (barred e v) = keeps.alone i h (subst (λ (x : ℕ). r.Barred i x) (one_start b i h p e) v)

  leaf_sound : (b : Box) (x : Leaf) → LeafKnown r.ops r.graph.edge_count x → Inside r.ops b t u
      → So r b x → ⊥
  unfolding So LeafKnown
  leaf_sound b (loop ks) k p w = no_loop ks w
  leaf_sound b (late i ks) k p l = not_late b i ks k.0 p l
  leaf_sound b (clash i j) k p c = no_clash b i j k.0 k.1 p c

  pub passes_none : (b : Box) (x : Tree) → Known r.ops r.graph.edge_count x → Passes r b x
      → Inside r.ops b t u → ⊥
  unfolding Passes Known CutKnown up_to above
  passes_none b (leaf x) k s p = leaf_sound b x k p s
  passes_none b (cut (split i v) x y) k s p = which (dec_lt v (t i))
      (λ l. passes_none (above b (split i v)) y k.1.1 s.1.1 (in_starts_above i v p k.0 l))
      (λ l. passes_none (up_to b (split i v)) x k.1.0 s.1.0 (in_starts_to i v p k.0 (omega arith)))
  passes_none b (cut (seat i v) x y) k s p = which (dec_lt v (u i))
      (λ l. passes_none (above b (seat i v)) y k.1.1 s.1.1 (in_instances_above i v p k.0 l))
      (λ l. passes_none (up_to b (seat i v)) x k.1.0 s.1.0 (in_instances_to i v p k.0 (omega arith)))
