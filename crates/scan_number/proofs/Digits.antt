-- Digits as the loop takes them, at a place i of the bytes s.
-- Assumes nothing.
use Rattle.std.specs.Prelude.{◌≡◌, ℕ, ◌+◌, ◌*◌, ◌≤◌, ◌<◌, List, ◌∷◌, length, drop, get_or}
use Rattle.std.proofs.Common.{sym, add-one, drop_of_length-le, drop-cons, ne_eqb, lt-ltb, le-ltb, arith}
use Rattle.text.specs.Sizes.{three_digits}
use Rattle.scan_number.specs.Number.{value, malformed, class_of, more_digits, number}
use Rattle.scan_number.specs.Bytes.{byte_of}
use Rattle.scan_number.specs.Digits.{value_or}
use Rattle.scan_number.specs.declared.Class.TheVariants.{Digit}

pub digit_small : (b d : ℕ) → Digit d ≡ class_of b → d < 10
digit_small b d e = (byte_of b (sym e)).1

module _ (s : List ℕ) (i : ℕ) (h : i < length s) where
  pub front : drop i s ≡ get_or s i 0 ∷ drop (i + 1) s
  front = rw (add-one, drop-cons s i 0)

  module _ (d : ℕ) (e : Digit d ≡ class_of (get_or s i 0)) where
    pub digit_zero : malformed ≡ more_digits 0 (drop i s)
    unfolding more_digits
    digit_zero = rw (front, ← e)

    pub digit_full : (v : ℕ) → three_digits < v → malformed ≡ more_digits v (drop i s)
    unfolding more_digits
    digit_full v z = rw (front, ← e, ne_eqb v 0 (λ n. omega arith), lt-ltb three_digits v z)

    pub digit_more : (v : ℕ) → (v ≡ 0 → ⊥) → v ≤ three_digits → more_digits (v * 10 + d) (drop (i + 1) s) ≡ more_digits v (drop i s)
    unfolding more_digits
    digit_more v n z = rw (front, ← e, ne_eqb v 0 n, le-ltb three_digits v z)

    pub number_digit : more_digits d (drop (i + 1) s) ≡ number (drop i s)
    unfolding number
    number_digit = rw (front, ← e)

  module _ (n : (d : ℕ) → class_of (get_or s i 0) ≡ Digit d → ⊥) where
    pub digit_stop : (v : ℕ) → value v (drop i s) ≡ more_digits v (drop i s)
    unfolding more_digits
    digit_stop v = rw (front, value_or _ _ _ n)

    pub number_other : malformed ≡ number (drop i s)
    unfolding number
    number_other = rw (front, value_or _ _ _ n)

-- the end of the bytes
pub digit_end : (s : List ℕ) (v : ℕ) → value v (drop (length s) s) ≡ more_digits v (drop (length s) s)
unfolding more_digits
digit_end s v = let h : length s ≤ length s = omega arith in rw (drop_of_length-le s h)

pub number_end : (s : List ℕ) (i : ℕ) → length s ≤ i → malformed ≡ number (drop i s)
unfolding number
number_end s i h = rw (drop_of_length-le s h)
