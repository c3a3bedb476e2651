-- A number with its sign, as the code meets it.
-- Assumes nothing.
use Rattle.std.specs.Prelude.{◌≡◌, ℕ, suc, zero, ◌+◌, ◌<◌, ◌≤◌, Bool, true, false, List, nat_abs, length, drop, get_or}
use Rattle.std.proofs.Common.{refl, sym, ap, ◌∙◌, drop_of_length-le, eq-eqb, ne_eqb}
use Rattle.scan_number.specs.Number.{value, malformed, class_of, number, int, none, signed_of, signed_number, whole_of}
use Rattle.scan_number.specs.Bytes.{byte_of}
use Rattle.scan_number.specs.declared.Class.TheVariants.{Minus}
use Rattle.scan_number.proofs.Digits.{front}

pub mag_signed : (g : Bool) (n : ℕ) → nat_abs (signed_of g n) ≡ n
mag_signed false n = refl
mag_signed true zero = refl
mag_signed true (suc n) = refl

-- ---- a number with the sign that was read before it

pub signed_none : (g : Bool) (bs : List ℕ) → malformed ≡ number bs → none ≡ signed_number g bs
unfolding signed_number
signed_none false bs e = rw (← e)
signed_none true bs e = rw (← e)

module _ (bs : List ℕ) (n : ℕ) (rest : List ℕ) (e : value n rest ≡ number bs) where
  pub signed_plain : int (signed_of false n) rest ≡ signed_number false bs
  unfolding signed_number
  signed_plain = rw (← e)

  pub signed_minus : (n ≡ 0 → ⊥) → int (signed_of true n) rest ≡ signed_number true bs
  unfolding signed_number
  signed_minus z = rw (← e, ne_eqb n 0 z)

  pub signed_zero : n ≡ 0 → none ≡ signed_number true bs
  unfolding signed_number
  signed_zero z = rw (← e, eq-eqb n 0 z)

-- ---- a number after a minus where one may stand

minus_class : class_of 45 ≡ Minus
unfolding class_of
minus_class = refl

pub whole_off : (bs : List ℕ) → signed_number false bs ≡ whole_of false bs
unfolding whole_of
whole_off bs = refl

module _ (s : List ℕ) (i : ℕ) where
  pub whole_minus : i < length s → Minus ≡ class_of (get_or s i 0) → signed_number true (drop (i + 1) s) ≡ whole_of true (drop i s)
  unfolding whole_of
  whole_minus h e = rw (front s i h, eq-eqb (get_or s i 0) 45 (byte_of _ (sym e)))

  pub whole_end : length s ≤ i → (m : Bool) → none ≡ whole_of m (drop i s)
  unfolding whole_of signed_number number
  whole_end h false = rw (drop_of_length-le s h)
  whole_end h true = rw (drop_of_length-le s h)

  pub whole_plain : i < length s → (class_of (get_or s i 0) ≡ Minus → ⊥) → (m : Bool) → signed_number false (drop i s) ≡ whole_of m (drop i s)
  unfolding whole_of
  whole_plain h n false = refl
  whole_plain h n true = rw (front s i h, ne_eqb (get_or s i 0) 45 (λ e. n (ap class_of e ∙ minus_class)))
