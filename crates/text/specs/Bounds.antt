-- Laws: how many bytes numbers, lines and their texts have at most.
-- Assumes nothing.
use Rattle.std.specs.Prelude.{◌≡◌, refl, List, [], ◌∷◌, ℕ, suc, ◌+◌, ◌*◌, ◌≤◌, ◌<◌, eqb, ℤ, pos, negsuc, nat_abs, length, take}
use Rattle.std.proofs.Common.{mul-suc, arith, length-append, length-take}
use Rattle.text.specs.declared.Line as declared
use Rattle.text.specs.Sizes.{most_values, three_digits, longest_number, longest_line}
use Rattle.text.specs.Text.{digits, no_number, signed_text, end_of, joined, line_text}
use Rattle.text.specs.Line.{key_of, text_of}
use Rattle.text.specs.Lines.{Line, line_text_of, lines_text, count_line}
use Rattle.text.specs.Keys as key
use Rattle.text.specs.KeyTable.{key_most}
use Rattle.text.specs.Answers.{answer_line, refusal_text}
use Rattle.laws.specs.Tests.{by_test}
use Rattle.text.specs.Decimal.{limit, digits_length, digits_most}

pub natural_most : (k n : ℕ) → n < limit k → length (signed_text (pos n)) ≤ k + 1
unfolding signed_text
natural_most k n h = digits_most k n h

-- a minus and the digits at most
sign_most : (z : ℤ) → length (signed_text z) ≤ length (digits (nat_abs z)) + 1
unfolding signed_text
sign_most (pos n) = omega arith
sign_most (negsuc n) = by_test (eqb (suc n) (nat_abs no_number)) (λ t. rw t (omega arith)) (λ t. rw t (omega arith))

-- a minus and at most k + 1 digits
pub signed_most : (k : ℕ) (z : ℤ) → nat_abs z < limit k → length (signed_text z) ≤ k + 2
signed_most k z h = let a = digits_most k (nat_abs z) h in let b = sign_most z in omega arith

-- each number has at most m bytes
abbrev pub Within : ℕ → List ℤ → Type 0
Within m [] = Unit {0}
Within m (v ∷ vs) = (length (signed_text v) ≤ m) × Within m vs

joined_most : (m : ℕ) (vs : List ℤ) → Within m vs → length (joined vs) ≤ (m + 1) * length vs
unfolding joined
joined_most m [] w = omega arith
joined_most m (v ∷ vs) w =
    let a = w.0 in
    let b = joined_most m vs w.1 in
    let c = length-append (signed_text v) (end_of (length vs) ∷ joined vs) in
    rw (mul-suc (m + 1) (length vs)) (omega arith)

-- a line: its key, and its numbers with a byte after each
pub line_most : (m : ℕ) (key : List ℕ) (vs : List ℤ) → Within m vs → length (line_text key vs) ≤ length key + (m + 1) * length vs
unfolding line_text
line_most m key vs w = let a = joined_most m vs w in let b = length-append key (joined vs) in omega arith

-- ---- numbers of at most three digits

-- such a number and the byte after it
abbrev pub number_most : ℕ
number_most = 3 + 1

pub number_most_lem : (n : ℕ) → n ≤ three_digits → length (signed_text (pos n)) ≤ 3
number_most_lem n h = natural_most 2 n (omega arith)

-- a line with one of them
pub one_most : (key : List ℕ) (n : ℕ) → n ≤ three_digits → length (line_text_of (count_line key n)) ≤ length key + number_most
one_most key n h = omega (arith, line_most 3 key (pos n ∷ []) (number_most_lem n h, tt))

-- ---- more lines

-- a line and more lines
pub cons_length : (l : Line) (ls : List Line) → length (lines_text (l ∷ ls)) ≡ length (line_text_of l) + length (lines_text ls)
unfolding lines_text
cons_length l ls = length-append (line_text_of l) (lines_text ls)

pub nil_length : length (lines_text []) ≡ 0
unfolding lines_text
nil_length = refl

-- the line `answer=` alone
pub answer_most_lem : (n : ℕ) → n ≤ three_digits → length (refusal_text n) ≤ length key.answer_key + number_most
answer_most_lem n h =
    let c = cons_length (answer_line n) [] in
    let z = nil_length in
    let b = one_most key.answer_key n h in
    omega arith

-- ---- whichever the line is

integer_most : (z : ℤ) → length (signed_text z) ≤ longest_number
integer_most z = let a = digits_length (nat_abs z) in let b = sign_most z in omega arith

numbers_most : (vs : List ℤ) → Within longest_number vs
numbers_most [] = tt
numbers_most (v ∷ vs) = (integer_most v, numbers_most vs)

-- the text of a line
pub text_most : (l : declared.Line) → length l.values ≤ most_values → length (text_of l) ≤ longest_line
unfolding text_of
text_most l h =
    let vs = take l.count l.values in
    let n = length-take l.count l.values in
    let a = line_most longest_number (key_of l.key) vs (numbers_most vs) in
    let k = key_most l.key in
    omega arith
