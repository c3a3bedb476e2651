-- Question 5 of a sheet at an interval, and the edges of its refusal: the first bad closed walk, in an array of 24 edge
-- numbers. Definitions first, then laws. Assumes nothing.
use Rattle.std.specs.Prelude.{◌≡◌, List, ℕ, ◌<◌, length}
use Rattle.std.proofs.Common.{sym, ap, ap₂, subst, ◌∙◌, arith, get_or-take, length-take-le}
use Rattle.std.proofs.Math.Decide.{dec_lt}
use Rattle.std.proofs.Math.ListN.{get_or-eq_default}
use Rattle.std.proofs.Math.Seq.{slice}
use Rattle.sizes.specs.Sizes.{most_operations}
use Rattle.laws.specs.Entry.{vec, Padded, padded_one}
use Rattle.dependence.specs.Rules.{BadWalk, FirstBadWalk}
use Rattle.dependence.specs.Answer.{Refusal, WalkAnswer, walk_three, walk_four, walk_five, walk_none}
use Rattle.dependence.specs.Feasible.{Exactly, infeasible_exactly}
use Rattle.dependence.specs.Unique.{first_one}
use Rattle.sheet.specs.declared.Sheet.{Sheet}
use Rattle.sheet.specs.Sheet.{InRange, Interval, graph_of}
use Rattle.sheet.specs.Facts.{ops_most, graph_in_range, interval_in_range}
use Rattle.sheet.specs.Questions.{Asked, at_no, One}

-- question 5: no closed walk is bad
abbrev pub Feasible : Sheet → ℕ → Type 0
Feasible s L = (p : List ℕ) → BadWalk (graph_of s) L p → ⊥

-- the answer 5: `made` of the length and the edges of the first bad closed walk
pub record Loop {A : Type 0} (s : Sheet) (L : ℕ) (made : ℕ → List ℕ → A) (a : A) : Type 0 where
  pub walk : List ℕ
  pub edges : List ℕ
  pub first : FirstBadWalk (graph_of s) L walk
  pub padded : Padded walk edges
  pub pinned : a ≡ made (length walk) edges

-- question 5, then the rest
abbrev pub IfFeasible : {A : Type 0} → (ℕ → List ℕ → A) → Sheet → ℕ → (A → Type 0) → A → Type 0
IfFeasible made s L Then = Asked (Feasible s L) (Loop s L made) Then

-- ---- at most one answer fits

pub loop_one : {A : Type 0} {s : Sheet} {L : ℕ} {made : ℕ → List ℕ → A} → One (Loop s L made)
loop_one {made = made} a b p q =
    let e = first_one p.first q.first in
    p.pinned ∙ ap₂ made (ap length e) (padded_one p.padded (subst (λ (k : List ℕ). Padded k q.edges) (sym e) q.padded)) ∙ sym q.pinned

-- ---- from what the dependence part answers

-- a bad closed walk exactly when no whole-number starts keep the dependences: of a sheet
pub sheet_exactly : {s : Sheet} {L : ℕ} → InRange s → Interval s L → Exactly (graph_of s) L
sheet_exactly {s} {L} ok iv = infeasible_exactly (graph_of s) L (graph_in_range ok) (interval_in_range ok iv)

module _ {s : Sheet} (ok : InRange s) {L size : ℕ} {edges : List ℕ} (whole : length edges ≡ most_operations) (r : Refusal (graph_of s) L size edges) where
  loop_length : length (slice 0 size edges) ≡ size
  loop_length = length-take-le size edges (omega (arith, r.few, ops_most ok))

  loop_padded : Padded (slice 0 size edges) edges
  loop_padded = record { whole = whole; fits = omega (arith, loop_length, r.few, ops_most ok); front = λ i. front i (dec_lt i size) }
    where
      front : (i : ℕ) → Dec (i < size) → vec edges i ≡ vec (slice 0 size edges) i
      front i (yes h) = sym (get_or-take size edges i 0 h)
      front i (no h) = r.past i (omega arith) ∙ sym (get_or-eq_default (slice 0 size edges) 0 (omega (arith, loop_length)))

  pub loop_made : {A : Type 0} {made : ℕ → List ℕ → A} {a : A} → a ≡ made size edges → Loop s L made a
  loop_made {made = made} e = record {
    walk = slice 0 size edges;
    edges = edges;
    first = r.first;
    padded = loop_padded;
    pinned = e ∙ ap (λ (n : ℕ). made n edges) (sym loop_length);
  }

module _ (s : Sheet) (L : ℕ) (ok : InRange s) (iv : Interval s L) where
  -- 5 where the dependence part answers 5
  pub walk_five_at : {A : Type 0} {made : ℕ → List ℕ → A} {Then : A → Type 0} {x : A} {a size : ℕ} {edges : List ℕ}
      → WalkAnswer (graph_of s) L a size edges → length edges ≡ most_operations → a ≡ 5 → x ≡ made size edges → IfFeasible made s L Then x
  walk_five_at (walk_three e _ _ _) l q p = absurd (omega arith)
  walk_five_at (walk_four e _ _ _ _) l q p = absurd (omega arith)
  walk_five_at (walk_five _ _ _ r) l q p = at_no (λ f. f _ r.first.bad) (loop_made ok l r p)
  walk_five_at (walk_none e _ _ _ _ _) l q p = absurd (omega arith)

  -- no closed walk is bad where it answers another number
  pub walk_free : {a size : ℕ} {edges : List ℕ} → WalkAnswer (graph_of s) L a size edges → (a ≡ 5 → ⊥) → Feasible s L
  walk_free (walk_three _ _ _ n) q = absurd (n (graph_in_range ok))
  walk_free (walk_four _ _ _ _ n) q = absurd (n (interval_in_range ok iv))
  walk_free (walk_five e _ _ _) q = absurd (q e)
  walk_free (walk_none _ _ _ _ _ n) q = n
