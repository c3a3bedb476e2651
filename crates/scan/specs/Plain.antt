-- A line of at most three numbers of which none carries a minus.
use Rattle.std.specs.Prelude.{ℕ, ◌≤◌, ◌≡◌, cond, List, [], ◌∷◌, map, leb, ℤ, pos, nat_abs, length, take, drop, get_or, Option, Some, None}
use Rattle.scan.specs.Line.{Fields, fields, bad, no_minus, due_line}
use Rattle.scan.specs.declared.PlainLine.{PlainLine}

-- numbers in such a line
abbrev pub most_plain : ℕ
most_plain = 3

-- such a line with this key and k numbers; at a numeral that it lets through this is lineOf
abbrev pub plain_line : List ℕ → ℕ → List ℕ → Fields
plain_line key k bs = cond (leb k most_plain) (due_line key k no_minus bs) bad

-- its number at a place
abbrev pub number_at : List ℤ → ℕ → ℕ
number_at vs i = nat_abs (get_or vs i (pos 0))

-- ---- what is found at a place of the bytes s

-- its numbers, where it has the most
abbrev pub plain_numbers : PlainLine → List ℕ
plain_numbers r = r.first ∷ r.second ∷ r.third ∷ []

-- its k numbers and what follows it
abbrev pub held_plain : List ℕ → ℕ → PlainLine → Fields
held_plain s k r = fields (take k (map pos (plain_numbers r))) (drop r.next s)

-- those, or that there is no such line
abbrev pub seen_plain : List ℕ → ℕ → Option PlainLine → Fields
seen_plain s k (Some r) = held_plain s k r
seen_plain s k None = bad

-- the place after the line lies within s, and what is no part of the line is 0
pub record PlainFits (s : List ℕ) (k : ℕ) (r : PlainLine) : Type 0 where
  pub next : r.next ≤ length s
  pub past : (i : ℕ) → k ≤ i → get_or (plain_numbers r) i 0 ≡ 0
