-- A script as the code meets it: one law for each way that a line can go.
-- Assumes nothing.
use Rattle.std.specs.Prelude.{◌≡◌, pos, length, drop, Option, IfSome}
use Rattle.std.proofs.Math.Path.{refl}
use Rattle.std.proofs.Common.{arith}
use mathlib.Core.List.{List, [], ◌∷◌, ◌++◌}
use Prim.Native.Nat.{ℕ, zero, suc, ◌≤◌, ◌<◌}
use Rattle.scan.specs.Line.{fields, bad, no_minus, line_of}
use Rattle.table_script.specs.declared.Step.{Step}
use Rattle.table_script.specs.declared.Step.TheVariants.{Offer, Book, Place}
use Rattle.table_script.specs.Script.{offer_key, book_key, place_key, StepRead, read, malformed, step_of, seen}
use Rattle.table_script.specs.Script.{steps, fault, steps_from}

-- ---- the step of a line

module _ (bs : List ℕ) where
  pub offer_step : (i t : ℕ) (rest : List ℕ) → line_of offer_key 2 no_minus bs ≡ fields (pos i ∷ pos t ∷ []) rest
      → step_of bs ≡ read (Offer i t) rest
  unfolding step_of
  offer_step i t rest e = rw e

  module _ (o : line_of offer_key 2 no_minus bs ≡ bad) where
    pub book_step : (i t u : ℕ) (rest : List ℕ)
        → line_of book_key 3 no_minus bs ≡ fields (pos i ∷ pos t ∷ pos u ∷ []) rest → step_of bs ≡ read (Book i t u) rest
    unfolding step_of
    book_step i t u rest e = rw (o, e)

    module _ (b : line_of book_key 3 no_minus bs ≡ bad) where
      pub place_step : (i t : ℕ) (rest : List ℕ) → line_of place_key 2 no_minus bs ≡ fields (pos i ∷ pos t ∷ []) rest
          → step_of bs ≡ read (Place i t) rest
      unfolding step_of
      place_step i t rest e = rw (o, b, e)

      pub no_step : line_of place_key 2 no_minus bs ≡ bad → step_of bs ≡ malformed
      unfolding step_of
      no_step e = rw (o, b, e)

-- ---- what `read_step` gives

-- what its contract says of a result at a place of the bytes s
abbrev pub ReadAt : List ℕ → ℕ → Option (Step × ℕ) → Type 0
ReadAt s at r = (seen s r ≡ step_of (drop at s)) × IfSome r (λ x. x.1 ≤ length s)

pub no_read : {st : Step} {rest : List ℕ} → read st rest ≡ malformed → ⊥
no_read e = let z : ◌≡◌ {A = ℕ} 0 1 = cc in omega arith

-- ---- the lines

pub no_fault : {sts : List Step} {n : ℕ} → steps sts ≡ fault n → ⊥
no_fault e = let z : ◌≡◌ {A = ℕ} 0 1 = cc in omega arith

module _ (done : List Step) where
  pub steps_end : (k : ℕ) → steps_from k done [] ≡ steps done
  unfolding steps_from
  steps_end zero = refl
  steps_end (suc k) = refl

  pub steps_over : (bs : List ℕ) → 0 < length bs → steps_from 0 done bs ≡ fault (suc (length done))
  unfolding steps_from
  steps_over [] h = absurd (omega arith)
  steps_over (b ∷ bs) h = refl

  pub steps_bad : (k : ℕ) (bs : List ℕ) → 0 < length bs → step_of bs ≡ malformed
      → steps_from k done bs ≡ fault (suc (length done))
  unfolding steps_from
  steps_bad k [] h e = absurd (omega arith)
  steps_bad zero (b ∷ bs) h e = refl
  steps_bad (suc k) (b ∷ bs) h e = rw e

  pub steps_more : (k : ℕ) (bs : List ℕ) (st : Step) (rest : List ℕ) → 0 < length bs → step_of bs ≡ read st rest
      → steps_from (suc k) done bs ≡ steps_from k (done ++ (st ∷ [])) rest
  unfolding steps_from
  steps_more k [] st rest h e = absurd (omega arith)
  steps_more k (b ∷ bs) st rest h e = rw e
