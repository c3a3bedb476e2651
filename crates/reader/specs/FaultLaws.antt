-- The line at fault: none exactly where the bytes are accepted, and never past the line after the longest sheet.
-- Assumes nothing.
use Rattle.std.specs.Prelude.{◌≡◌, Bool, List, ℕ, zero, suc, ◌+◌, ◌-◌, ◌≤◌, ◌<◌, ltb, eqb, length, get_or, drop}
use Rattle.std.proofs.Math.Path.{refl}
use Rattle.std.proofs.Common.{ap, ◌∙◌, add-one, arith, length-drop, ltb-true, ltb-false, eq-eqb, ne_eqb}
use Rattle.laws.specs.Count.{bit, bit_small, tally_none, tally_more}
use Rattle.laws.specs.Tests.{by_test}
use Rattle.sheet.specs.declared.Sheet.{Sheet}
use Rattle.reader.specs.declared.ReadAnswer.{ReadAnswer}
use Rattle.sheet_lines.specs.Found.{Found, found, refused}
use Rattle.reader.specs.Read.{longest_sheet, whole_from, read_of}
use Rattle.reader.specs.Fault.{line_feed, line_number, fault_at, fault_of}
use Rattle.reader.specs.Refusals.{not_refused}
use Rattle.reader.specs.Whole.{too_long, read_of_lem}

-- ---- the number of a line

-- whether a line feed stands at a place
abbrev feed_at : List ℕ → ℕ → Bool
feed_at bs i = eqb (get_or bs i 0) line_feed

pub first_line : (bs : List ℕ) → line_number 0 bs ≡ 1
unfolding line_number
first_line bs = omega (arith, tally_none (feed_at bs))

number_more : (bs : List ℕ) (i : ℕ) → line_number (i + 1) bs ≡ line_number i bs + bit (feed_at bs i)
unfolding line_number
number_more bs i = omega (arith, tally_more i (feed_at bs))

pub after_feed : (bs : List ℕ) (i : ℕ) → get_or bs i 0 ≡ line_feed → line_number (i + 1) bs ≡ line_number i bs + 1
after_feed bs i e = number_more bs i ∙ ap (λ (b : Bool). line_number i bs + bit b) (eq-eqb (get_or bs i 0) line_feed e)

pub after_other : (bs : List ℕ) (i : ℕ) → (get_or bs i 0 ≡ line_feed → ⊥) → line_number (i + 1) bs ≡ line_number i bs
after_other bs i n =
    let q : bit (feed_at bs i) ≡ 0 = ap bit (ne_eqb (get_or bs i 0) line_feed n) in
    omega (arith, number_more bs i)

-- a line has a byte at least
pub number_small : (bs : List ℕ) (i : ℕ) → line_number i bs ≤ i + 1
number_small bs zero = omega (arith, first_line bs)
number_small bs (suc i) = rw (← add-one i) (omega (arith, number_more bs i, bit_small (feed_at bs i), number_small bs i))

number_some : (bs : List ℕ) (i : ℕ) → 0 < line_number i bs
unfolding line_number
number_some bs i = omega arith

-- ---- the line at fault

pub fault_found : (bs : List ℕ) {s : Sheet} {rest : List ℕ} → whole_from bs ≡ found s rest → fault_of bs ≡ 0
unfolding fault_of
fault_found bs e = ap (fault_at bs) e

pub fault_refused : (bs : List ℕ) {n : ℕ} (at : ℕ) → at ≤ length bs → whole_from bs ≡ refused n (drop at bs) → fault_of bs ≡ line_number at bs
unfolding fault_of
fault_refused bs at l e =
    let q : length bs - length (drop at bs) ≡ at = omega (arith, length-drop at bs) in
    ap (fault_at bs) e ∙ ap (λ (i : ℕ). line_number i bs) q

module _ (bs : List ℕ) where
  none_at : (x : Found Sheet) → whole_from bs ≡ x → (read_of bs).answer ≡ 0 → fault_of bs ≡ 0
  none_at (found s rest) e z = fault_found bs e
  none_at (refused n rest) e z = absurd (not_refused bs z e)

  -- accepted bytes have none
  pub accepted_none : (read_of bs).answer ≡ 0 → fault_of bs ≡ 0
  accepted_none z = none_at (whole_from bs) refl z

  some_at : (x : Found Sheet) → whole_from bs ≡ x → ((read_of bs).answer ≡ 0 → ⊥) → 0 < fault_at bs x
  some_at (found s rest) e n = absurd (n (ap (λ (r : ReadAnswer). r.answer) (read_of_lem bs e)))
  some_at (refused n rest) e z = number_some bs (length bs - length rest)

  -- refused bytes have one
  pub refused_some : ((read_of bs).answer ≡ 0 → ⊥) → 0 < fault_of bs
  unfolding fault_of
  refused_some n = some_at (whole_from bs) refl n

  within_at : (x : Found Sheet) → fault_at bs x ≤ length bs + 1
  within_at (found s rest) = omega arith
  within_at (refused n rest) = omega (arith, number_small bs (length bs - length rest))

  pub fault_within : fault_of bs ≤ length bs + 1
  unfolding fault_of
  fault_within = within_at (whole_from bs)

  -- it is a line of the bytes of a sheet, or the one after them
  pub fault_small : fault_of bs ≤ longest_sheet + 1
  fault_small =
      by_test (ltb longest_sheet (length bs))
      (λ t.
      let h = ltb-true longest_sheet (length bs) t in
      omega (arith, fault_refused bs longest_sheet (omega arith) (too_long bs h), number_small bs longest_sheet))
      (λ t. omega (arith, ltb-false longest_sheet (length bs) t, fault_within))
