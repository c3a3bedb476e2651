-- The widths of the page: a column has 5 characters, a line 45 bytes, and so the length of the whole, which follows
-- from the sheet and the interval alone. And the lines as the code writes them. Assumes nothing.
use Rattle.std.specs.Prelude.{ℕ, zero, suc, ◌+◌, ◌-◌, ◌*◌, ◌≤◌, ◌<◌, ◌≡◌, refl, List, [], ◌∷◌, ◌++◌, Bool, true, false, ltb, length}
use Rattle.std.proofs.Common.{arith, sym, ◌∙◌, length-append, lt-ltb, le-ltb}
use Rattle.std.proofs.Math.Path.{ap}
use Rattle.std.proofs.Math.Bool.{cond}
use Rattle.sizes.specs.Sizes.{most_instances, most_types, most_intervals}
use Rattle.laws.specs.Count.{total, total_most}
use Rattle.text.specs.Sizes.{three_digits}
use Rattle.text.specs.Text.{digits}
use Rattle.sheet.specs.declared.Sheet.{Sheet}
use Rattle.sheet.specs.Sheet.{type_at, op_at}
use Rattle.sheet.specs.Facts.{ops_most, types_most, cap_most}
use Rattle.sheet.specs.Questions.{Accepted}
use Rattle.placing_table.specs.declared.Table.{Table}
use Rattle.placing_table.specs.Table.{placement_at}
use Rattle.page_text.specs.Columns.{blanks, right, padded, up_to, line_feed}
use Rattle.page_text.specs.Page.{line_width, type_word, heading_line, user_text, column_text, slot_line, type_lines, uses, user_of, type_text, page_text}
use Rattle.page_text.specs.Digits.{five_bytes, four_bytes, dash_bytes}
use Rattle.page_text.specs.Joining.{up_length, up_same, up_total}
use Rattle.page_text.specs.Users.{FewUsers, last_bound}

-- ---- lengths, of which the laws below speak

-- the bytes of a line: its characters and a line feed
abbrev pub line_length : ℕ
line_length = line_width + 1

-- the lines of a limited type: a heading and L slots
abbrev pub block_lines : ℕ → ℕ
block_lines L = L + 1

-- the lines of a type with A instances
abbrev pub line_count : ℕ → ℕ → ℕ
line_count L A = cond (ltb 0 A) (block_lines L) 0

-- its bytes
abbrev pub type_length : ℕ → ℕ → ℕ
type_length L A = cond (ltb 0 A) (block_lines L * line_length) 0

-- the bytes of the first n types
abbrev pub length_to : Sheet → ℕ → ℕ → ℕ
length_to s L n = total n (λ r. type_length L (type_at s r).instances)

-- the bytes of a page
abbrev pub page_length : Sheet → ℕ → ℕ
page_length s L = length_to s L s.type_count

-- ---- columns

pub five_wide : (n : ℕ) → n ≤ three_digits → length (right 5 (digits n)) ≡ 5
five_wide n h = ap length (five_bytes n h)

pub four_wide : (n : ℕ) → n ≤ three_digits → length (right 4 (digits n)) ≡ 4
four_wide n h = ap length (four_bytes n h)

user_wide : (user : ℕ) → user ≤ three_digits → length (user_text user) ≡ 5
unfolding user_text
user_wide zero h = ap length dash_bytes
user_wide (suc i) h = five_wide i (omega arith)

pub column_wide : (A a user : ℕ) → user ≤ three_digits → length (column_text A a user) ≡ 5
unfolding column_text
column_wide A a user h = at (ltb a A)
  where
    at : (b : Bool) → length (cond b (user_text user) (blanks 5)) ≡ 5
    at true = user_wide user h
    at false = refl

pub columns_wide : (A : ℕ) (f : ℕ → ℕ) → FewUsers f → (n : ℕ) → n ≤ most_instances → length (up_to n (λ a. column_text A a (f a))) ≡ n * 5
columns_wide A f few n h = up_length n (λ a. column_text A a (f a)) 5 (λ a l. column_wide A a (f a) (omega (arith, few a (omega arith))))

-- the three kinds of column
there_is : (A a user : ℕ) → a < A → column_text A a user ≡ user_text user
unfolding column_text
there_is A a user h = ap (λ (b : Bool). cond b (user_text user) (blanks 5)) (lt-ltb a A h)

pub no_instance : (A a user : ℕ) → A ≤ a → blanks 5 ≡ column_text A a user
unfolding column_text
no_instance A a user h = sym (ap (λ (b : Bool). cond b (user_text user) (blanks 5)) (le-ltb a A h))

pub unused : (A a user : ℕ) → a < A → user ≡ 0 → 32 ∷ 32 ∷ 32 ∷ 32 ∷ 45 ∷ [] ≡ column_text A a user
unfolding user_text
unused A a user h e = sym (there_is A a user h ∙ ap user_text e ∙ dash_bytes)

pub used : (A a user : ℕ) → a < A → (user ≡ 0 → ⊥) → right 5 (digits (user - 1)) ≡ column_text A a user
unfolding user_text
used A a zero h n = absurd (n refl)
used A a (suc i) h n = let e : suc i - 1 ≡ i = omega arith in ap (λ (y : ℕ). right 5 (digits y)) e ∙ sym (there_is A a (suc i) h)

-- ---- lines

pub heading_parts : (r : ℕ) → r ≤ three_digits → heading_line r ≡ type_word ++ (right 5 (digits r) ++ (blanks 35 ++ line_feed))
unfolding heading_line padded
heading_parts r h = rw (five_bytes r h)

pub heading_long : (r : ℕ) → r ≤ three_digits → length (heading_line r) ≡ line_length
heading_long r h = ap length (heading_parts r h) ∙ rw (five_bytes r h)

pub slot_parts : (A : ℕ) (f : ℕ → ℕ) (slot' : ℕ) → slot_line A f slot' ≡ right 4 (digits slot') ++ (up_to most_instances (λ a. column_text A a (f a)) ++ line_feed)
unfolding slot_line
slot_parts A f slot' = refl

pub slot_long : (A : ℕ) (f : ℕ → ℕ) (slot' : ℕ) → FewUsers f → slot' ≤ three_digits → length (slot_line A f slot') ≡ line_length
slot_long A f slot' few h =
    let columns = up_to most_instances (λ a. column_text A a (f a)) in
    ap length (slot_parts A f slot') ∙ length-append (right 4 (digits slot')) (columns ++ line_feed)
    ∙ omega (arith, four_wide slot' h, length-append columns line_feed, columns_wide A f few most_instances (omega arith))

-- the users decide the line
pub slot_same : (A : ℕ) (f g : ℕ → ℕ) (slot' : ℕ) → ((a : ℕ) → a < most_instances → f a ≡ g a) → slot_line A f slot' ≡ slot_line A g slot'
slot_same A f g slot' h =
    slot_parts A f slot'
    ∙ ap (λ (x : List ℕ). right 4 (digits slot') ++ (x ++ line_feed)) (up_same most_instances (λ a. column_text A a (f a)) (λ a. column_text A a (g a)) (λ a l. ap (column_text A a) (h a l)))
    ∙ sym (slot_parts A g slot')

pub slots_long : (A : ℕ) (user : ℕ → ℕ → ℕ) → ((slot' : ℕ) → FewUsers (user slot')) → (n : ℕ) → n ≤ three_digits → length (up_to n (λ slot'. slot_line A (user slot') slot')) ≡ n * line_length
slots_long A user few n h = up_length n (λ slot'. slot_line A (user slot') slot') line_length (λ slot' l. slot_long A (user slot') slot' (few slot') (omega arith))

-- ---- types

module _ (L A : ℕ) (user : ℕ → ℕ → ℕ) (r : ℕ) where
  pub limited_lines : 0 < A → type_lines L A user r ≡ heading_line r ++ up_to L (λ slot'. slot_line A (user slot') slot')
  unfolding type_lines
  limited_lines h = ap (λ (b : Bool). cond b (heading_line r ++ up_to L (λ slot'. slot_line A (user slot') slot')) []) (lt-ltb 0 A h)

  pub unlimited_lines : A ≡ 0 → type_lines L A user r ≡ []
  unfolding type_lines
  unlimited_lines e = ap (λ (b : Bool). cond b (heading_line r ++ up_to L (λ slot'. slot_line A (user slot') slot')) []) (le-ltb 0 A (omega arith))

module _ (L A : ℕ) where
  pub limited_length : 0 < A → type_length L A ≡ block_lines L * line_length
  limited_length h = ap (λ (b : Bool). cond b (block_lines L * line_length) 0) (lt-ltb 0 A h)

  pub unlimited_length : A ≡ 0 → type_length L A ≡ 0
  unlimited_length e = ap (λ (b : Bool). cond b (block_lines L * line_length) 0) (le-ltb 0 A (omega arith))

  type_most : type_length L A ≤ block_lines L * line_length
  type_most = at (ltb 0 A)
    where
      at : (b : Bool) → cond b (block_lines L * line_length) 0 ≤ block_lines L * line_length
      at true = omega arith
      at false = omega arith

type_long : (L A : ℕ) (user : ℕ → ℕ → ℕ) (r : ℕ) → ((slot' : ℕ) → FewUsers (user slot')) → L ≤ three_digits → r ≤ three_digits → length (type_lines L A user r) ≡ type_length L A
unfolding type_lines
type_long L A user r few l h = at (ltb 0 A)
  where
    at : (b : Bool) → length (cond b (heading_line r ++ up_to L (λ slot'. slot_line A (user slot') slot')) []) ≡ cond b (block_lines L * line_length) 0
    at true =
        length-append (heading_line r) (up_to L (λ slot'. slot_line A (user slot') slot'))
        ∙ omega (arith, heading_long r h, slots_long A user few L l)
    at false = refl

-- ---- the page

pub users_few : {s : Sheet} {L : ℕ} → Accepted s L → (table : Table) (r slot' : ℕ) → FewUsers (user_of s L table r slot')
users_few {s} {L} y table r slot' a h =
    omega (arith, ops_most y.sheet, last_bound s.op_count (λ i. uses L (type_at s r).busy (op_at s i).resource (placement_at table i) r slot' a))

pub few_slots : {s : Sheet} {L : ℕ} → Accepted s L → L ≤ most_intervals
few_slots y = omega (arith, y.interval.high, cap_most y.sheet)

-- the lines of the first n types
abbrev pub lines_to : Sheet → ℕ → Table → ℕ → List ℕ
lines_to s L table n = up_to n (type_text s L table)

pub type_of_long : {s : Sheet} {L : ℕ} → Accepted s L → (table : Table) (r : ℕ) → r ≤ most_types → length (type_text s L table r) ≡ type_length L (type_at s r).instances
type_of_long {s} {L} y table r h =
    type_long L (type_at s r).instances (user_of s L table r) r (λ slot'. users_few y table r slot') (omega (arith, few_slots y)) (omega arith)

pub lines_long : {s : Sheet} {L : ℕ} → Accepted s L → (table : Table) (n : ℕ) → n ≤ most_types → length (lines_to s L table n) ≡ length_to s L n
lines_long {s} {L} y table n h =
    up_total n (type_text s L table) (λ r. type_length L (type_at s r).instances)
    (λ r l. type_of_long y table r (omega arith))

pub page_lines : (s : Sheet) (L : ℕ) (table : Table) → page_text s L table ≡ lines_to s L table s.type_count
unfolding page_text
page_lines s L table = refl

-- the length of the page follows from the sheet and the interval alone
pub page_long : {s : Sheet} {L : ℕ} → Accepted s L → (table : Table) → length (page_text s L table) ≡ page_length s L
page_long {s} {L} y table = ap length (page_lines s L table) ∙ lines_long y table s.type_count (types_most y.sheet)

-- the bytes of the longest page
abbrev pub longest_page : ℕ
longest_page = most_types * (block_lines most_intervals * line_length)

pub length_most : {s : Sheet} {L : ℕ} → Accepted s L → (n : ℕ) → n ≤ most_types → length_to s L n ≤ longest_page
length_most {s} {L} y n h =
    let t = total_most n (λ r. type_length L (type_at s r).instances) (block_lines most_intervals * line_length)
    (λ r. omega (arith, type_most L (type_at s r).instances, few_slots y)) in
    omega arith

pub page_most : {s : Sheet} {L : ℕ} → Accepted s L → page_length s L ≤ longest_page
page_most {s} y = length_most y s.type_count (types_most y.sheet)
