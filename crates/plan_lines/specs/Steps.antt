-- A plan's lines as the code meets them: one law for each way that a line or a turn of the loop can go.
-- Assumes nothing.
use Rattle.std.specs.Prelude.{◌≡◌, pos, length, take, drop, set}
use Rattle.std.proofs.Math.Path.{refl, sym}
use Rattle.std.proofs.Common.{ap, ◌∙◌, add-one, arith, length-drop, length-set, drop_of_length-le, take-suc-set, get_or-set_other, length-take-le}
use mathlib.Core.List.{List, [], ◌∷◌, ◌++◌}
use Prim.Native.Nat.{ℕ, zero, suc, ◌+◌, ◌-◌, ◌≤◌, ◌<◌}
use Rattle.std.proofs.lemmas.List.{length-replicate}
use borrow.Author.Tests.{eq-eqb, ne_eqb}
use Rattle.sizes.specs.Sizes.{most_operations}
use Rattle.laws.specs.Entry.{zeros, ZeroFrom}
use Rattle.laws.specs.Store.{all_zero}
use Rattle.text.specs.Keys.{answer_key, interval_key, at_key}
use Rattle.scan.specs.Line.{fields, bad, no_minus, line_of}
use Rattle.plan_lines.specs.declared.PlanLines.{PlanLines}
use Rattle.plan_lines.specs.Lines.{PlanRead, given, malformed, first_at, places_from, plan_of}
use Rattle.plan_lines.specs.Lines.{LinesFit}

pub no_plan : {L : ℕ} {ts us : List ℕ} {n : ℕ} → given L ts us ≡ malformed n → ⊥
no_plan e = let z : ◌≡◌ {A = ℕ} 0 1 = cc in omega arith

-- ---- the lines `at=t,u`

module _ (L : ℕ) (ts us : List ℕ) where
  pub places_end : (k : ℕ) → places_from k L ts us [] ≡ given L ts us
  unfolding places_from
  places_end zero = refl
  places_end (suc k) = refl

  pub places_over : (bs : List ℕ) → 0 < length bs → places_from 0 L ts us bs ≡ malformed (first_at + length ts)
  unfolding places_from
  places_over [] h = absurd (omega arith)
  places_over (b ∷ bs) h = refl

  pub places_bad : (k : ℕ) (bs : List ℕ) → 0 < length bs → line_of at_key 2 no_minus bs ≡ bad
      → places_from (suc k) L ts us bs ≡ malformed (first_at + length ts)
  unfolding places_from
  places_bad k [] h e = absurd (omega arith)
  places_bad k (b ∷ bs) h e = rw e

  pub places_more : (k : ℕ) (bs : List ℕ) (t u : ℕ) (rest : List ℕ) → 0 < length bs
      → line_of at_key 2 no_minus bs ≡ fields (pos t ∷ pos u ∷ []) rest
      → places_from (suc k) L ts us bs ≡ places_from k L (ts ++ (t ∷ [])) (us ++ (u ∷ [])) rest
  unfolding places_from
  places_more k [] t u rest h e = absurd (omega arith)
  places_more k (b ∷ bs) t u rest h e = rw e

-- ---- the whole

module _ (bs : List ℕ) where
  pub no_answer : line_of answer_key 1 no_minus bs ≡ bad → plan_of bs ≡ malformed 1
  unfolding plan_of
  no_answer e = rw e

  module _ (a : ℕ) (b₁ : List ℕ) (e₁ : line_of answer_key 1 no_minus bs ≡ fields (pos a ∷ []) b₁) where
    pub another_answer : (a ≡ 0 → ⊥) → plan_of bs ≡ malformed 1
    unfolding plan_of
    another_answer n = rw (e₁, ne_eqb a 0 n)

    module _ (z : a ≡ 0) where
      pub no_interval : line_of interval_key 1 no_minus b₁ ≡ bad → plan_of bs ≡ malformed 2
      unfolding plan_of
      no_interval e = rw (e₁, eq-eqb a 0 z, e)

      pub places : (L : ℕ) (b₂ : List ℕ) → line_of interval_key 1 no_minus b₁ ≡ fields (pos L ∷ []) b₂
          → plan_of bs ≡ places_from most_operations L [] [] b₂
      unfolding plan_of
      places L b₂ e = rw (e₁, eq-eqb a 0 z, e)

-- ---- the loop

no_entries : ZeroFrom 0 zeros
no_entries = record { whole = length-replicate {A = ℕ} most_operations 0; rest = λ i _. all_zero most_operations i }

-- what is still to be read, from the place p on, where i lines were read
abbrev ahead : List ℕ → ℕ → List ℕ → List ℕ → ℕ → ℕ → PlanRead
ahead s L ts us p i = places_from (most_operations - i) L (take i ts) (take i us) (drop p s)

-- what holds before the line i: the numbers so far are in the arrays, and what is still to be read is the rest of want
pub record Turn (s : List ℕ) (L : ℕ) (want : PlanRead) (ts us : List ℕ) (p i : ℕ) : Type 0 where
  pub few : i ≤ most_operations
  pub starts : ZeroFrom i ts
  pub instances : ZeroFrom i us
  pub same : ahead s L ts us p i ≡ want

pub start : (s : List ℕ) (at L : ℕ) → Turn s L (places_from most_operations L [] [] (drop at s)) zeros zeros at 0
start s at L = record { few = omega arith; starts = no_entries; instances = no_entries; same = refl }

-- one number more
zero_more : {i : ℕ} {xs : List ℕ} (v : ℕ) → ZeroFrom i xs → ZeroFrom (i + 1) (set xs i v)
zero_more {i} {xs} v z = record {
  whole = length-set xs i v ∙ z.whole;
  rest = λ j h. get_or-set_other xs i j v 0 (λ e. omega arith) ∙ z.rest j (omega arith);
}

front_more : {i : ℕ} {xs : List ℕ} (v : ℕ) → ZeroFrom i xs → i < most_operations
    → take (i + 1) (set xs i v) ≡ take i xs ++ (v ∷ [])
front_more {i} {xs} v z h = rw add-one (take-suc-set xs i v (omega (arith, z.whole)))

module _ {s : List ℕ} {L : ℕ} {want : PlanRead} {ts us : List ℕ} {p i : ℕ} (t : Turn s L want ts us p i) where
  module _ (h : p < length s) where
    some : 0 < length (drop p s)
    some = omega (arith, length-drop p s)

    -- the number of this line
    here : malformed (first_at + length (take i ts)) ≡ malformed (first_at + i)
    here = ap (λ (n : ℕ). malformed (first_at + n)) (length-take-le i ts (omega (arith, t.few, t.starts.whole)))

    -- a line past the most
    pub over : most_operations ≤ i → malformed (first_at + i) ≡ want
    over m =
        let q : most_operations - i ≡ 0 = omega arith in
        let z : ahead s L ts us p i ≡ malformed (first_at + length (take i ts)) =
        rw q (places_over L (take i ts) (take i us) (drop p s) some) in
        sym (sym t.same ∙ z ∙ here)

    module _ (m : i < most_operations) where
      left : most_operations - i ≡ suc (most_operations - (i + 1))
      left = omega arith

      pub stops : bad ≡ line_of at_key 2 no_minus (drop p s) → malformed (first_at + i) ≡ want
      stops e =
          let z : ahead s L ts us p i ≡ malformed (first_at + length (take i ts)) =
          rw left (places_bad L (take i ts) (take i us) _ (drop p s) some (sym e)) in
          sym (sym t.same ∙ z ∙ here)

      pub turn : (a b q : ℕ) → fields (pos a ∷ pos b ∷ []) (drop q s) ≡ line_of at_key 2 no_minus (drop p s)
          → Turn s L want (set ts i a) (set us i b) q (i + 1)
      turn a b q e =
          let x = front_more a t.starts m in
          let y = front_more b t.instances m in
          let z : ahead s L ts us p i ≡ ahead s L (set ts i a) (set us i b) q (i + 1) =
          rw (left, x, y) (places_more L (take i ts) (take i us) _ (drop p s) _ _ _ some (sym e)) in
          record {
            few = omega arith;
            starts = zero_more a t.starts;
            instances = zero_more b t.instances;
            same = sym z ∙ t.same;
          }

  -- the bytes end
  pub done : length s ≤ p → given L (take i ts) (take i us) ≡ want
  done h =
      let z : ahead s L ts us p i ≡ given L (take i ts) (take i us) =
      rw (drop_of_length-le s h) (places_end L (take i ts) (take i us) (most_operations - i)) in
      sym z ∙ t.same

  pub fits : LinesFit (record { interval = L; count = i; starts = ts; instances = us })
  fits = record { few = t.few; starts = t.starts; instances = t.instances }
