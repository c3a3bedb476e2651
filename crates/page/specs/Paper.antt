-- Each line of the page has 44 characters and a line feed, and there are as many lines as limited types times slots and
-- headings. Assumes nothing.
use Rattle.std.specs.Prelude.{ℕ, zero, suc, ◌+◌, ◌/◌, ◌%◌, ◌≤◌, ◌<◌, ◌≡◌, refl, List, [], ◌∷◌, ◌++◌, Bool, true, false, cond, ltb, length}
use Rattle.std.proofs.Common.{arith, add-zero, sym, ap, subst, ◌∙◌, append_assoc, append-nil, length-append}
use Rattle.sizes.specs.Sizes.{most_instances}
use Rattle.laws.specs.Count.{total}
use Rattle.laws.specs.Tests.{by_test}
use Rattle.text.specs.Sizes.{three_digits}
use Rattle.text.specs.Text.{digits}
use Rattle.sheet.specs.declared.Sheet.{Sheet}
use Rattle.sheet.specs.Sheet.{type_at}
use Rattle.sheet.specs.Facts.{types_most}
use Rattle.sheet.specs.Questions.{Accepted}
use Rattle.placing_table.specs.declared.Table.{Table}
use Rattle.page_text.specs.Columns.{blanks, right, up_to, line_feed}
use Rattle.page_text.specs.Page.{line_width, column_width, type_word, heading_line, user_text, column_text, slot_line, type_lines, user_of, type_text, page_text}
use Rattle.page_text.specs.Digits.{hundreds_byte, tens_byte, ones_byte, five_bytes, four_bytes, dash_bytes}
use Rattle.page_text.specs.Users.{FewUsers}
use Rattle.page_text.specs.Widths.{line_length, block_lines, line_count, heading_parts, heading_long, slot_parts, slot_long, users_few, few_slots, page_lines}

-- ---- what a line is

-- a character: a printable byte, so no line feed
pub record Character (b : ℕ) : Type 0 where
  pub low : 32 ≤ b
  pub high : b ≤ 126

-- a text of characters alone
pub data Characters : List ℕ → Type 0 where
  none : Characters []
  more : {b : ℕ} {bs : List ℕ} → Character b → Characters bs → Characters (b ∷ bs)

-- as many characters as a line is wide, 44, and a line feed
pub record PaperLine (line : List ℕ) : Type 0 where
  pub front : List ℕ
  pub characters : Characters front
  pub width : length front ≡ line_width
  pub whole : line ≡ front ++ line_feed

-- n such lines
pub data PaperLines : ℕ → List ℕ → Type 0 where
  no_line : PaperLines 0 []
  line_more : {n : ℕ} {text line : List ℕ} → PaperLines n text → PaperLine line → PaperLines (suc n) (text ++ line)

-- ---- characters

characters_then : {a b : List ℕ} → Characters a → Characters b → Characters (a ++ b)
characters_then none q = q
characters_then (more c p) q = more c (characters_then p q)

characters_as : {a b : List ℕ} → a ≡ b → Characters b → Characters a
characters_as e p = subst Characters (sym e) p

blank : Character 32
blank = record { low = omega arith; high = omega arith }

all_blank : (n : ℕ) → Characters (blanks n)
all_blank zero = none
all_blank (suc n) = more blank (all_blank n)

digit : (b n : ℕ) → b ≡ 48 + n → n < 10 → Character b
digit b n e h = record { low = omega arith; high = omega arith }

hundreds_is : (n : ℕ) → n ≤ three_digits → Character (hundreds_byte n)
hundreds_is n h =
    by_test (ltb n 100) (λ t. subst Character (sym (ap (λ (b : Bool). cond b 32 (48 + n / 100)) t)) blank)
    (λ t. digit (hundreds_byte n) (n / 100) (ap (λ (b : Bool). cond b 32 (48 + n / 100)) t) (omega arith))

tens_is : (n : ℕ) → Character (tens_byte n)
tens_is n =
    by_test (ltb n 10) (λ t. subst Character (sym (ap (λ (b : Bool). cond b 32 (48 + n / 10 % 10)) t)) blank)
    (λ t. digit (tens_byte n) (n / 10 % 10) (ap (λ (b : Bool). cond b 32 (48 + n / 10 % 10)) t) (omega arith))

ones_is : (n : ℕ) → Character (ones_byte n)
ones_is n = digit (ones_byte n) (n % 10) refl (omega arith)

five_is : (n : ℕ) → n ≤ three_digits → Characters (right 5 (digits n))
five_is n h = characters_as (five_bytes n h) (more blank (more blank (more (hundreds_is n h) (more (tens_is n) (more (ones_is n) none)))))

four_is : (n : ℕ) → n ≤ three_digits → Characters (right 4 (digits n))
four_is n h = characters_as (four_bytes n h) (more blank (more (hundreds_is n h) (more (tens_is n) (more (ones_is n) none))))

user_is : (user : ℕ) → user ≤ three_digits → Characters (user_text user)
unfolding user_text
user_is zero h = characters_as dash_bytes (more blank (more blank (more blank (more blank (more (record { low = omega arith; high = omega arith }) none)))))
user_is (suc i) h = five_is i (omega arith)

column_is : (A a user : ℕ) → user ≤ three_digits → Characters (column_text A a user)
unfolding column_text
column_is A a user h = at (ltb a A)
  where
    at : (b : Bool) → Characters (cond b (user_text user) (blanks column_width))
    at true = user_is user h
    at false = all_blank column_width

up_is : (n : ℕ) (f : ℕ → List ℕ) → ((i : ℕ) → i < n → Characters (f i)) → Characters (up_to n f)
unfolding up_to
up_is zero f h = none
up_is (suc n) f h = characters_then (up_is n f (λ i l. h i (omega arith))) (h n (omega arith))

-- ---- lines

-- a text before a line feed that has the length of a line
line_of : {line front : List ℕ} → Characters front → line ≡ front ++ line_feed → length line ≡ line_length → PaperLine line
line_of {line} {front} c e n = record {
  front = front;
  characters = c;
  width = let m = length-append front line_feed in let k = ap length e in omega arith;
  whole = e;
}

heading_is : (r : ℕ) → r ≤ three_digits → PaperLine (heading_line r)
heading_is r h =
    line_of (characters_then word (characters_then (five_is r h) (all_blank 35)))
    (heading_parts r h ∙ ap (λ (x : List ℕ). type_word ++ x) (sym (append_assoc (right 5 (digits r)) (blanks 35) line_feed)) ∙ sym (append_assoc type_word (right 5 (digits r) ++ blanks 35) line_feed))
    (heading_long r h)
  where
    letter : (b : ℕ) → 97 ≤ b → b ≤ 122 → Character b
    letter b l u = record { low = omega arith; high = omega arith }

    word : Characters type_word
    word = more (letter 116 (omega arith) (omega arith)) (more (letter 121 (omega arith) (omega arith)) (more (letter 112 (omega arith) (omega arith)) (more (letter 101 (omega arith) (omega arith)) none)))

slot_is : (A : ℕ) (f : ℕ → ℕ) (slot' : ℕ) → FewUsers f → slot' ≤ three_digits → PaperLine (slot_line A f slot')
slot_is A f slot' few h =
    let columns = up_to most_instances (λ a. column_text A a (f a)) in
    line_of (characters_then (four_is slot' h) (up_is most_instances (λ a. column_text A a (f a)) (λ a l. column_is A a (f a) (omega (arith, few a l)))))
    (slot_parts A f slot' ∙ sym (append_assoc (right 4 (digits slot')) columns line_feed))
    (slot_long A f slot' few h)

-- ---- many lines

lines_then : {m n : ℕ} {a b : List ℕ} → PaperLines m a → PaperLines n b → PaperLines (m + n) (a ++ b)
lines_then {m} {a = a} p no_line = subst (λ (x : List ℕ). PaperLines (m + 0) x) (sym (append-nil a)) (subst (λ (k : ℕ). PaperLines k a) (sym (add-zero m)) p)
lines_then {m} {a = a} p (line_more {n} {text} {line} q l) =
    let e : suc (m + n) ≡ m + suc n = omega arith in
    subst (λ (k : ℕ). PaperLines k (a ++ (text ++ line))) e (subst (PaperLines (suc (m + n))) (append_assoc a text line) (line_more (lines_then p q) l))

one_line : {line : List ℕ} → PaperLine line → PaperLines 1 line
one_line l = line_more no_line l

each_line : (n : ℕ) (f : ℕ → List ℕ) → ((i : ℕ) → i < n → PaperLine (f i)) → PaperLines n (up_to n f)
unfolding up_to
each_line zero f h = no_line
each_line (suc n) f h = line_more (each_line n f (λ i l. h i (omega arith))) (h n (omega arith))

all_lines : (n : ℕ) (f : ℕ → List ℕ) (w : ℕ → ℕ) → ((i : ℕ) → i < n → PaperLines (w i) (f i)) → PaperLines (total n w) (up_to n f)
unfolding up_to total
all_lines zero f w h = no_line
all_lines (suc n) f w h = lines_then (all_lines n f w (λ i l. h i (omega arith))) (h n (omega arith))

type_is : (L A : ℕ) (user : ℕ → ℕ → ℕ) (r : ℕ) → ((slot' : ℕ) → FewUsers (user slot')) → L ≤ three_digits → r ≤ three_digits → PaperLines (line_count L A) (type_lines L A user r)
unfolding type_lines
type_is L A user r few l h = at (ltb 0 A)
  where
    at : (b : Bool) → PaperLines (cond b (block_lines L) 0) (cond b (heading_line r ++ up_to L (λ slot'. slot_line A (user slot') slot')) [])
    at true =
        subst (λ (n : ℕ). PaperLines n (heading_line r ++ up_to L (λ slot'. slot_line A (user slot') slot'))) (omega arith)
        (lines_then (one_line (heading_is r h)) (each_line L (λ slot'. slot_line A (user slot') slot') (λ slot' k. slot_is A (user slot') slot' (few slot') (omega arith))))
    at false = no_line

-- the page of any table of an accepted sheet and interval
pub page_paper : {s : Sheet} {L : ℕ} → Accepted s L → (table : Table) → PaperLines (total s.type_count (λ r. line_count L (type_at s r).instances)) (page_text s L table)
page_paper {s} {L} y table =
    let m = types_most y.sheet in
    let few = few_slots y in
    let w : ℕ → ℕ = λ r. line_count L (type_at s r).instances in
    subst (PaperLines (total s.type_count w)) (sym (page_lines s L table))
    (all_lines s.type_count (type_text s L table) w
    (λ r l. type_is L (type_at s r).instances (user_of s L table r) r (λ slot'. users_few y table r slot') (omega arith) (omega arith)))
