-- Laws of numbers of at most three digits in columns of four and five: their bytes, and that the bytes tell the number.
-- Assumes nothing.
use Rattle.std.specs.Prelude.{ℕ, suc, ◌+◌, ◌-◌, ◌/◌, ◌%◌, ◌≤◌, ◌<◌, ◌≡◌, refl, List, [], ◌∷◌, ◌++◌, Bool, cond, ltb, length}
use Rattle.std.proofs.Common.{arith, sym, ap, ◌∙◌, lt-ltb, le-ltb}
use Rattle.std.proofs.Math.Decide.{dec_lt}
use Rattle.laws.specs.Entry.{vec}
use Rattle.text.specs.Sizes.{three_digits}
use Rattle.text.specs.Text.{digits}
use Rattle.text.specs.Decimal.{one_digit, digits_more, digits_most}
use Rattle.page_text.specs.Columns.{right}

-- the three bytes of a number of at most three digits, with blanks for leading zeros: the first,
abbrev pub hundreds_byte : ℕ → ℕ
hundreds_byte n = cond (ltb n 100) 32 (48 + n / 100)

-- the second,
abbrev pub tens_byte : ℕ → ℕ
tens_byte n = cond (ltb n 10) 32 (48 + n / 10 % 10)

-- and the third
abbrev pub ones_byte : ℕ → ℕ
ones_byte n = 48 + n % 10

two_digits : (n : ℕ) → 10 ≤ n → n < 100 → digits n ≡ (48 + n / 10) ∷ (48 + n % 10) ∷ []
two_digits n l h =
    digits_more n l (omega arith) ∙ ap (λ (xs : List ℕ). xs ++ ((48 + n % 10) ∷ [])) (one_digit (n / 10) (omega arith))

three_digits_lem : (n : ℕ) → 100 ≤ n → n ≤ three_digits → digits n ≡ (48 + n / 100) ∷ (48 + n / 10 % 10) ∷ (48 + n % 10) ∷ []
three_digits_lem n l h =
    let e : n / 10 / 10 ≡ n / 100 = omega arith in
    digits_more n (omega arith) (omega arith)
    ∙ ap (λ (xs : List ℕ). xs ++ ((48 + n % 10) ∷ [])) (two_digits (n / 10) (omega arith) (omega arith) ∙ ap (λ (x : ℕ). (48 + x) ∷ (48 + n / 10 % 10) ∷ []) e)

pub five_bytes : (n : ℕ) → n ≤ three_digits → right 5 (digits n) ≡ 32 ∷ 32 ∷ hundreds_byte n ∷ tens_byte n ∷ ones_byte n ∷ []
unfolding right
five_bytes n h = at (dec_lt n 10) (dec_lt n 100)
  where
    at : Dec (n < 10) → Dec (n < 100) → right 5 (digits n) ≡ 32 ∷ 32 ∷ hundreds_byte n ∷ tens_byte n ∷ ones_byte n ∷ []
    at (yes a) d = let e : n % 10 ≡ n = omega arith in rw (one_digit n a, lt-ltb n 10 a, lt-ltb n 100 (omega arith), e)
    at (no a) (yes b) = let e : n / 10 % 10 ≡ n / 10 = omega arith in rw (two_digits n (omega arith) b, le-ltb n 10 (omega arith), lt-ltb n 100 b, e)
    at (no a) (no b) = rw (three_digits_lem n (omega arith) h, le-ltb n 10 (omega arith), le-ltb n 100 (omega arith))

-- one column more is one blank more
right_more : (w : ℕ) (text : List ℕ) → length text ≤ w → right (suc w) text ≡ 32 ∷ right w text
unfolding right
right_more w text h = let e : suc w - length text ≡ suc (w - length text) = omega arith in rw e

tail_of : List ℕ → List ℕ
tail_of [] = []
tail_of (x ∷ xs) = xs

-- four columns are five without the first
pub four_bytes : (n : ℕ) → n ≤ three_digits → right 4 (digits n) ≡ 32 ∷ hundreds_byte n ∷ tens_byte n ∷ ones_byte n ∷ []
unfolding tail_of
four_bytes n h = ap tail_of (sym (right_more 4 (digits n) (omega (arith, digits_most 2 n (omega arith)))) ∙ five_bytes n h)

pub dash_bytes : right 5 (45 ∷ []) ≡ 32 ∷ 32 ∷ 32 ∷ 32 ∷ 45 ∷ []
unfolding right
dash_bytes = refl

-- ---- the bytes tell the number

-- a byte that is a blank below a power of ten, and a digit from there on
tens_at : (n : ℕ) → 10 ≤ n → tens_byte n ≡ 48 + n / 10 % 10
tens_at n h = ap (λ (t : Bool). cond t 32 (48 + n / 10 % 10)) (le-ltb n 10 h)

tens_blank : (n : ℕ) → n < 10 → tens_byte n ≡ 32
tens_blank n h = ap (λ (t : Bool). cond t 32 (48 + n / 10 % 10)) (lt-ltb n 10 h)

below_hundred : (m n : ℕ) → m < 100 → n < 100 → tens_byte m ≡ tens_byte n → ones_byte m ≡ ones_byte n → m ≡ n
below_hundred m n h k e f = at (dec_lt m 10) (dec_lt n 10)
  where
    at : Dec (m < 10) → Dec (n < 10) → m ≡ n
    at (yes a) (yes b) = omega arith
    at (yes a) (no b) = absurd (omega (arith, sym (tens_blank m a) ∙ e ∙ tens_at n (omega arith)))
    at (no a) (yes b) = absurd (omega (arith, sym (tens_at m (omega arith)) ∙ e ∙ tens_blank n b))
    at (no a) (no b) = omega (arith, sym (tens_at m (omega arith)) ∙ e ∙ tens_at n (omega arith))

pub five_tell : (m n : ℕ) → m < 100 → n < 100 → right 5 (digits m) ≡ right 5 (digits n) → m ≡ n
five_tell m n h k e =
    let w = sym (five_bytes m (omega arith)) ∙ e ∙ five_bytes n (omega arith) in
    below_hundred m n h k (ap (λ (xs : List ℕ). vec xs 3) w) (ap (λ (xs : List ℕ). vec xs 4) w)

-- no number reads as the dash
pub no_dash : (n : ℕ) → n ≤ three_digits → right 5 (45 ∷ []) ≡ right 5 (digits n) → ⊥
no_dash n h e = let w = ap (λ (xs : List ℕ). vec xs 4) (sym dash_bytes ∙ e ∙ five_bytes n h) in omega arith
