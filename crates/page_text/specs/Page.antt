-- The page of a placing table (modulo reservation table), on paper 44 characters wide: the text, line by line, in the
-- words of slip 3 of 02.
use Rattle.std.specs.Prelude.{ℕ, zero, suc, Bool, false, cond, List, [], ◌∷◌, ◌++◌, ltb, eqb}
use Rattle.sizes.specs.Sizes.{most_instances}
use Rattle.held_slots.specs.Held.{holds_slot}
use Rattle.text.specs.Text.{digits}
use Rattle.sheet.specs.declared.Sheet.{Sheet}
use Rattle.sheet.specs.Sheet.{type_at, op_at}
use Rattle.placing_table.specs.declared.Placement.{Placement}
use Rattle.placing_table.specs.declared.Table.{Table}
use Rattle.placing_table.specs.Table.{placement_at}
use Rattle.page_text.specs.Columns.{blanks, right, padded, up_to, line_feed}

-- ---- the lines; a user of an instance is 0 for no operation, i + 1 for operation i

-- the characters of a line
abbrev pub line_width : ℕ
line_width = 44

-- of a column, and of the number in a heading
abbrev pub column_width : ℕ
column_width = 5

-- of a slot's number
abbrev pub slot_width : ℕ
slot_width = 4

-- the word `type`
abbrev pub type_word : List ℕ
type_word = 116 ∷ 121 ∷ 112 ∷ 101 ∷ []

-- a heading: the word, the type's number right-aligned in 5, and blanks
unfoldable pub heading_line : ℕ → List ℕ
heading_line r = padded line_width (type_word ++ right column_width (digits r)) ++ line_feed

-- a column of an instance: the number of the operation that uses it, `-` where it is unused
unfoldable pub user_text : ℕ → List ℕ
user_text zero = right column_width (45 ∷ [])
user_text (suc i) = right column_width (digits i)

-- column a of a type with A instances: blanks where no such instance exists
unfoldable pub column_text : ℕ → ℕ → ℕ → List ℕ
column_text A a user = cond (ltb a A) (user_text user) (blanks column_width)

-- a slot: its number right-aligned in 4, then eight columns
unfoldable pub slot_line : ℕ → (ℕ → ℕ) → ℕ → List ℕ
slot_line A user slot' = right slot_width (digits slot') ++ (up_to most_instances (λ a. column_text A a (user a)) ++ line_feed)

-- type r with A instances at the interval L: a heading, then one line per slot from 0; nothing where it is unlimited
unfoldable pub type_lines : ℕ → ℕ → (ℕ → ℕ → ℕ) → ℕ → List ℕ
type_lines L A user r = cond (ltb 0 A) (heading_line r ++ up_to L (λ slot'. slot_line A (user slot') slot')) []

-- ---- who uses an instance in a slot

-- an operation of the type `resource`, placed as p, holds an instance of type r in the slot; K is the count of slots
-- that an instance of r stays busy
abbrev pub reserves : ℕ → ℕ → ℕ → Placement → ℕ → ℕ → Bool
reserves L K resource p r slot' = cond p.placed (cond (eqb resource r) (holds_slot L K p.start slot') false) false

-- and it is the instance a
abbrev pub uses : ℕ → ℕ → ℕ → Placement → ℕ → ℕ → ℕ → Bool
uses L K resource p r slot' a = cond (reserves L K resource p r slot') (eqb p.instance a) false

-- the last of the first n operations that has the flag, plus 1; 0 where none has
unfoldable pub last_of : ℕ → (ℕ → Bool) → ℕ
last_of zero flag = 0
last_of (suc n) flag = cond (flag n) (suc n) (last_of n flag)

-- the operation that uses the instance a of type r in the slot, plus 1, and 0 where it is unused: each slot that an
-- operation holds shows it; in a consistent table no two operations use one
abbrev pub user_of : Sheet → ℕ → Table → ℕ → ℕ → ℕ → ℕ
user_of s L table r slot' a = last_of s.op_count (λ i. uses L (type_at s r).busy (op_at s i).resource (placement_at table i) r slot' a)

-- ---- the whole

-- the lines of type r
abbrev pub type_text : Sheet → ℕ → Table → ℕ → List ℕ
type_text s L table r = type_lines L (type_at s r).instances (user_of s L table r) r

-- the lines of each type, by number
unfoldable pub page_text : Sheet → ℕ → Table → List ℕ
page_text s L table = up_to s.type_count (type_text s L table)
