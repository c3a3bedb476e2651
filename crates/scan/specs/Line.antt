-- A line: its key, numbers split by single commas, and a line feed. Every kind of line is read by the one definition.
use Rattle.std.specs.Prelude.{ℕ, zero, suc, ◌≤◌, ◌≡◌, List, [], ◌∷◌, ◌++◌, Bool, false, cond, eqb, leb, ℤ, pos, nat_abs, length, drop, take, get_or, replicate, Option, Some, None}
use Rattle.text.specs.Sizes.{four_digits}
use Rattle.text.specs.Text.{end_of}
use Rattle.scan_number.specs.Number.{Signed, int, none, on_int, whole_of}
use Rattle.scan.specs.declared.Line.{Line}

-- ---- the key

-- the bytes after a key, or that the key is missing
pub data Rest : Type 0 where
  after : List ℕ → Rest
  missing : Rest

-- f of the bytes after the key, or o where the key is missing
abbrev pub on_rest : {A : Type 0} → Rest → (List ℕ → A) → A → A
on_rest (after bs) f o = f bs
on_rest missing f o = o

-- what follows the key
unfoldable pub stripped : List ℕ → List ℕ → Rest
stripped [] bs = after bs
stripped (c ∷ cs) [] = missing
stripped (c ∷ cs) (b ∷ bs) = cond (eqb b c) (stripped cs bs) missing

-- ---- the numbers

-- f of what follows the byte c, or o
abbrev pub on_byte : {A : Type 0} → ℕ → List ℕ → (List ℕ → A) → A → A
on_byte c [] f o = o
on_byte c (b ∷ bs) f o = cond (eqb b c) (f bs) o

-- a number and the byte that ends it
unfoldable pub field_of : ℕ → Bool → List ℕ → Signed
field_of end minus bs = on_int (whole_of minus bs) (λ v rest. on_byte end rest (λ r. int v r) none) none

-- a line's numbers and what follows its line feed, or no such line
pub data Fields : Type 0 where
  fields : List ℤ → List ℕ → Fields
  bad : Fields

-- f of a line's numbers and what follows its line feed, or o where there is no such line
abbrev pub on_fields : {A : Type 0} → Fields → (List ℤ → List ℕ → A) → A → A
on_fields (fields vs rest) f o = f vs rest
on_fields bad f o = o

-- k numbers more, after the numbers vs; only the one at the place minus may carry a minus
unfoldable pub fields_from : ℕ → ℕ → List ℤ → List ℕ → Fields
fields_from zero minus vs bs = fields vs bs
fields_from (suc k) minus vs bs =
    on_int (field_of (end_of k) (eqb (length vs) minus) bs) (λ v rest. fields_from k minus (vs ++ (v ∷ [])) rest) bad

-- the line with this key and k numbers, at the front of the bytes
unfoldable pub line_of : List ℕ → ℕ → ℕ → List ℕ → Fields
line_of key k minus bs = on_rest (stripped key bs) (λ rest. fields_from k minus [] rest) bad

-- numbers in a line
abbrev pub most_numbers : ℕ
most_numbers = 8

-- the place of no number: none may carry a minus
abbrev pub no_minus : ℕ
no_minus = most_numbers

-- a line has a number, and not more than the most
abbrev pub line_count : ℕ → Bool
line_count k = cond (leb 1 k) (leb k most_numbers) false

-- the same, where k is a line's count; at a numeral that it lets through this is line_of
abbrev pub due_line : List ℕ → ℕ → ℕ → List ℕ → Fields
due_line key k minus bs = cond (line_count k) (line_of key k minus bs) bad

-- ---- what is found at a place of the bytes s

-- the bytes from the place after the key on, or that the key is missing
abbrev pub seen_place : List ℕ → Option ℕ → Rest
seen_place s (Some p) = after (drop p s)
seen_place s None = missing

-- a line of k numbers
abbrev pub seen_line : List ℕ → ℕ → Option Line → Fields
seen_line s k (Some l) = fields (take k l.values) (drop l.next s)
seen_line s k None = bad

-- a line's number at place i, 0 past the end
abbrev pub value_at : Line → ℕ → ℤ
value_at l i = get_or l.values i (pos 0)

-- the most numbers, all 0
abbrev pub zeros : List ℤ
zeros = replicate most_numbers (pos 0)

-- the place after the line lies within s, each value has at most four digits, and what is no part of the line is 0
pub record LineFits (s : List ℕ) (k : ℕ) (l : Line) : Type 0 where
  pub whole : length l.values ≡ most_numbers
  pub next : l.next ≤ length s
  pub small : (i : ℕ) → nat_abs (value_at l i) ≤ four_digits
  pub past : (i : ℕ) → k ≤ i → value_at l i ≡ pos 0
