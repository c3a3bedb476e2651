-- A number of a line: one to four digits, no leading zero but 0 itself, after a minus where one may stand; -0 is none.
use Rattle.std.specs.Prelude.{ℕ, ◌+◌, ◌*◌, ◌-◌, ◌≤◌, List, [], ◌∷◌, Bool, true, false, cond, leb, eqb, ltb, ℤ, pos, neg_ℤ, nat_abs, length, drop, Option, Some, None}
use Rattle.text.specs.Sizes.{three_digits, four_digits}
use Rattle.scan_number.specs.declared.Class.{Class}
use Rattle.scan_number.specs.declared.Class.TheVariants.{Minus, Digit, Comma, LineFeed, Other}

-- after the equals sign each byte is a minus, a digit, a comma or a line feed
unfoldable pub class_of : ℕ → Class
class_of b =
    cond (leb 48 b)
    (cond (leb b 57) (Digit (b - 48)) Other)
    (cond (eqb b 45) Minus (cond (eqb b 44) Comma (cond (eqb b 10) LineFeed Other)))

-- f of a digit's value, and o at any other byte
abbrev pub digit_or : {A : Type 0} → Class → (ℕ → A) → A → A
digit_or Minus f o = o
digit_or (Digit d) f o = f d
digit_or Comma f o = o
digit_or LineFeed f o = o
digit_or Other f o = o

-- ---- without a sign

-- a number and what follows it, or no number
pub data Num : Type 0 where
  value : ℕ → List ℕ → Num
  malformed : Num

-- f of a number and what follows it, or o where there is no number
abbrev pub on_number : {A : Type 0} → Num → (ℕ → List ℕ → A) → A → A
on_number (value n rest) f o = f n rest
on_number malformed f o = o

-- the rest of a number whose digits so far stand for v: no digit follows a leading 0, and none follows four digits
unfoldable pub more_digits : ℕ → List ℕ → Num
more_digits v [] = value v []
more_digits v (b ∷ bs) =
    digit_or (class_of b)
    (λ d. cond (eqb v 0) malformed (cond (ltb three_digits v) malformed (more_digits (v * 10 + d) bs)))
    (value v (b ∷ bs))

-- the number at the front of the bytes: it has at least one digit
unfoldable pub number : List ℕ → Num
number [] = malformed
number (b ∷ bs) = digit_or (class_of b) (λ d. more_digits d bs) malformed

-- ---- with a sign

-- a whole number and what follows it, or none
pub data Signed : Type 0 where
  int : ℤ → List ℕ → Signed
  none : Signed

-- f of a whole number and what follows it, or o where there is none
abbrev pub on_int : {A : Type 0} → Signed → (ℤ → List ℕ → A) → A → A
on_int (int v rest) f o = f v rest
on_int none f o = o

-- minus n where the flag is true, else n
abbrev pub signed_of : Bool → ℕ → ℤ
signed_of true n = neg_ℤ (pos n)
signed_of false n = pos n

-- a number with this sign; -0 is none
unfoldable pub signed_number : Bool → List ℕ → Signed
signed_number true bs = on_number (number bs) (λ n rest. cond (eqb n 0) none (int (signed_of true n) rest)) none
signed_number false bs = on_number (number bs) (λ n rest. int (signed_of false n) rest) none

-- a number, after a minus where one may stand
unfoldable pub whole_of : Bool → List ℕ → Signed
whole_of false bs = signed_number false bs
whole_of true [] = signed_number false []
whole_of true (b ∷ bs) = cond (eqb b 45) (signed_number true bs) (signed_number false (b ∷ bs))

-- ---- what is found at a place of the bytes s

-- a number and the bytes from the place after it on, or that there is no number
abbrev pub seen : List ℕ → Option (ℕ × ℕ) → Num
seen s (Some (v, p)) = value v (drop p s)
seen s None = malformed

-- the place after a number lies within s, and the number has at most four digits
abbrev pub Within : List ℕ → ℕ × ℕ → Type 0
Within s (v, p) = (p ≤ length s) × (v ≤ four_digits)

-- a whole number and the bytes from the place after it on, or that there is none
abbrev pub seen_whole : List ℕ → Option (ℤ × ℕ) → Signed
seen_whole s (Some (v, p)) = int v (drop p s)
seen_whole s None = none

-- the place after a whole number lies within s, and the number has at most four digits
abbrev pub WithinWhole : List ℕ → ℤ × ℕ → Type 0
WithinWhole s (v, p) = (p ≤ length s) × (nat_abs v ≤ four_digits)
