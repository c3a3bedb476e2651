-- A chain, edge by edge, as it is walked. Assumes nothing.
use Rattle.std.specs.Prelude.{◌≡◌, Bool, ℕ, ◌+◌, ◌*◌, ◌<◌, length, drop, get_or, ℤ, ◌+ℤ◌, Option, None, Some, IfSome, MatchOption}
use Rattle.std.proofs.Math.Path.{refl, sym, ap, subst}
use Rattle.std.proofs.Common.{◌∙◌, arith, add-one, drop-cons}
use Rattle.std.proofs.Math.Bool.{true, false, cond}
use mathlib.Core.List.{List, [], ◌∷◌}
use Rattle.std.proofs.Math.Dec.{eqb}
use Rattle.std.proofs.Math.IntN.{pos, +ℤ_assoc, +ℤ_idr, +ℤ_idl}
use borrow.Author.Tests.{eqb-true, eq-eqb, ne_eqb}
use Rattle.laws.specs.Z.{zed}
use Rattle.laws.specs.Entry.{at}
use Rattle.net.specs.Small.{most_weight}
use Rattle.scan_list.specs.List.{most_items}
use Rattle.dependence.specs.declared.Graph.{Graph}
use Rattle.dependence.specs.Graph.{edge_at, total, InRange, Interval}
use Rattle.dependence.specs.Answer.{Totals}
use Rattle.dependence.specs.Rules.{Chain, here, step, sum}
use Rattle.rules.specs.Totals.{total_small}
use Rattle.denial.specs.Tree.{Below, more}
use Rattle.tree_nodes.specs.declared.chain.Walked.{Walked}
use Rattle.tree_boxes.specs.Within.{Within}

-- how far the sum of a line's edges may be from 0
abbrev pub most_sum : ℕ
most_sum = most_weight * most_items

-- the totals ts of n edges are near 0
abbrev pub SmallTotals : ℕ → List ℤ → Type 0
SmallTotals n ts = (k : ℕ) → k < n → Within most_weight (at ts k)

-- of at most p edges among n operations: it ends at one, and its sum is near 0
pub record Walking (p n : ℕ) (w : Walked) : Type 0 where
  pub end : w.end < n
  pub sum : Within (most_weight * p) w.sum

-- the edges ks are no chain from i
abbrev pub NoChain : Graph → ℕ → List ℕ → Type 0
NoChain g i ks = (j : ℕ) → Chain g i ks j → ⊥

-- they are one, with this end and this sum
pub record Followed (g : Graph) (L i : ℕ) (ks : List ℕ) (w : Walked) : Type 0 where
  pub near : Walking most_items g.ops w
  pub chain : Chain g i ks w.end
  pub sum : w.sum ≡ sum g L ks
  pub only : (j : ℕ) → Chain g i ks j → w.end ≡ j

-- ---- the walk

-- where a chain ends and its sum, or that it is none
pub data Walk : Type 0 where
  walk : ℕ → ℤ → Walk
  broken : Walk

-- from operation i with the sum z along the edges ks, whose totals are ts: each begins where the one before it ended
unfoldable pub walk_from : Graph → List ℤ → ℕ → ℤ → List ℕ → Walk
walk_from g ts i z [] = walk i z
walk_from g ts i z (k ∷ ks) = cond (eqb (edge_at g k).from i) (walk_from g ts (edge_at g k).to (z +ℤ at ts k) ks) broken

abbrev pub seen_walk : Option Walked → Walk
seen_walk (Some w) = walk w.end w.sum
seen_walk None = broken

-- p edges were walked: what is left leads from where they end to where the whole leads from its start
pub record Reached (g : Graph) (ts : List ℤ) (start : ℕ) (es : List ℕ) (p end : ℕ) (z : ℤ) : Type 0 where
  pub below : Below g.edge_count (drop p es)
  pub same : walk_from g ts end z (drop p es) ≡ walk_from g ts start (pos 0) es
  pub walking : Walking p g.ops (record { end = end; sum = z })

-- ---- an edge at a time

module _ (g : Graph) (ts : List ℤ) (i : ℕ) (z : ℤ) where
  module _ {k : ℕ} {ks vs : List ℕ} (v : vs ≡ k ∷ ks) where
    pub walk_on : (edge_at g k).from ≡ i → walk_from g ts (edge_at g k).to (z +ℤ at ts k) ks ≡ walk_from g ts i z vs
    unfolding walk_from
    walk_on e = rw (v, eq-eqb (edge_at g k).from i e)

    pub walk_off : ((edge_at g k).from ≡ i → ⊥) → broken ≡ walk_from g ts i z vs
    unfolding walk_from
    walk_off n = rw (v, ne_eqb (edge_at g k).from i n)

  pub walk_done : {vs : List ℕ} → vs ≡ [] → walk i z ≡ walk_from g ts i z vs
  unfolding walk_from
  walk_done e = rw e

-- the edges from the place p on, begun with the one there
pub front : (p : ℕ) (vs : List ℕ) → p < length vs → drop p vs ≡ get_or vs p 0 ∷ drop (p + 1) vs
front p vs h = rw add-one (drop-cons vs p 0 h)

module _ {m k : ℕ} {ks vs : List ℕ} (v : vs ≡ k ∷ ks) (b : Below m vs) where
  pub below_first : k < m
  below_first = first (subst (Below m) v b)
    where
      first : {k : ℕ} {ks : List ℕ} → Below m (k ∷ ks) → k < m
      first (more q r) = q

  pub below_rest : Below m ks
  below_rest = rest (subst (Below m) v b)
    where
      rest : {k : ℕ} {ks : List ℕ} → Below m (k ∷ ks) → Below m ks
      rest (more q r) = r

-- ---- a walk is a chain with its sum

walk_eq : {i j : ℕ} {y z : ℤ} → walk i y ≡ walk j z → (i ≡ j) × (y ≡ z)
walk_eq e = (cc, cc)

no_walk : {i : ℕ} {y : ℤ} → broken ≡ walk i y → ⊥
no_walk e = let z : ◌≡◌ {A = ℕ} 0 1 = cc in omega arith

module _ {g : Graph} {L : ℕ} {ts : List ℤ} (t : Totals g L ts) where
  regroup : (z : ℤ) (k : ℕ) (ks : List ℕ) → k < g.edge_count
      → (z +ℤ at ts k) +ℤ sum g L ks ≡ z +ℤ (total g L k +ℤ sum g L ks)
  regroup z k ks l = +ℤ_assoc z (at ts k) (sum g L ks) ∙ ap (λ (x : ℤ). z +ℤ (x +ℤ sum g L ks)) (t.each k l)

  walk_chain : (i : ℕ) (z : ℤ) (ks : List ℕ) (j : ℕ) (y : ℤ) → Below g.edge_count ks
      → walk_from g ts i z ks ≡ walk j y → Chain g i ks j × (y ≡ z +ℤ sum g L ks)
  unfolding walk_from sum
  walk_chain i z [] j y b e =
      (subst (λ (x : ℕ). Chain g i [] x) (walk_eq e).0 here, sym (walk_eq e).1 ∙ sym (+ℤ_idr z))
  walk_chain i z (k ∷ ks) j y (more l b) e =
      go (eqb (edge_at g k).from i) refl e (λ q. walk_chain (edge_at g k).to (z +ℤ at ts k) ks j y b q)
    where
      go : (c : Bool) → eqb (edge_at g k).from i ≡ c
          → cond c (walk_from g ts (edge_at g k).to (z +ℤ at ts k) ks) broken ≡ walk j y
          → (walk_from g ts (edge_at g k).to (z +ℤ at ts k) ks ≡ walk j y
          → Chain g (edge_at g k).to ks j × (y ≡ (z +ℤ at ts k) +ℤ sum g L ks))
          → Chain g i (k ∷ ks) j × (y ≡ z +ℤ (total g L k +ℤ sum g L ks))
      go true q e rest = let w = rest e in (
        subst (λ (x : ℕ). Chain g x (k ∷ ks) j) (eqb-true (edge_at g k).from i q) (step l w.0),
        w.1 ∙ regroup z k ks l,
      )
      go false q e rest = absurd (no_walk e)

  chain_walk : {i j : ℕ} {ks : List ℕ} (z : ℤ) → Chain g i ks j → walk_from g ts i z ks ≡ walk j (z +ℤ sum g L ks)
  unfolding walk_from sum
  chain_walk z here = ap (walk _) (sym (+ℤ_idr z))
  chain_walk z (step {k} {j} {ks} l c) =
      rw (eq-eqb (edge_at g k).from (edge_at g k).from refl)
      (chain_walk (z +ℤ at ts k) c ∙ ap (walk j) (regroup z k ks l))

  pub followed : (i : ℕ) (ks : List ℕ) (r : Option Walked) → Below g.edge_count ks
      → seen_walk r ≡ walk_from g ts i (pos 0) ks → IfSome r (Walking most_items g.ops)
      → MatchOption r (NoChain g i ks) (Followed g L i ks)
  followed i ks None b e n = λ j c. no_walk (e ∙ chain_walk (pos 0) c)
  followed i ks (Some w) b e n =
      let f = walk_chain i (pos 0) ks w.end w.sum b (sym e) in
      record {
        near = n;
        chain = f.0;
        sum = f.1 ∙ +ℤ_idl (sum g L ks);
        only = λ j c. (walk_eq (e ∙ chain_walk (pos 0) c)).0;
      }

-- the totals of a graph in range are near 0
pub totals_near : {g : Graph} {L : ℕ} {ts : List ℤ} → InRange g → Interval L → Totals g L ts
    → SmallTotals g.edge_count ts
totals_near ok iv t k h =
    let s = total_small ok iv h in
    subst (Within most_weight) (sym (t.each k h))
    (record { high = omega (arith, zed, s.high); low = omega (arith, zed, s.low) })
