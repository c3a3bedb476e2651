-- A list of lines by value: its text, the list with no line, one line more. And a natural as a number of a line.
use Rattle.std.specs.Prelude.{ℕ, ◌+◌, min, cond, ltb, ℤ, pos, take, set, replicate}
use mathlib.Core.List.{List, flat_map}
use Rattle.sizes.specs.Sizes.{most_operations}
use Rattle.text.specs.declared.Key.TheVariants.{Horizon}
use Rattle.text.specs.declared.Line.{Line}
use Rattle.text.specs.Line.{text_of}
use Rattle.text.specs.Sizes.{most_values, greatest_number}
use Rattle.lines.specs.declared.Lines.{Lines}

-- lines in a list: an answer, an interval, and one for each operation
abbrev pub most_lines : ℕ
most_lines = 2 + most_operations

-- the text: that of each of the first `count` lines, at most all of them, one after the other
unfoldable pub shown : Lines → List ℕ
shown ls = flat_map text_of (take ls.count ls.lines)

-- what stands past the lines of a new list
abbrev pub blank : Line
blank = record { key = Horizon; count = 0; values = replicate most_values (pos 0) }

-- no line
unfoldable pub no_lines : Lines
no_lines = record { count = 0; lines = replicate most_lines blank }

-- one line more at the end; a full list stays as it is
unfoldable pub with_line : Lines → Line → Lines
with_line ls l = cond (ltb ls.count most_lines) (record { count = ls.count + 1; lines = set ls.lines ls.count l }) ls

-- a natural in a line: itself, or the greatest number that a line can have where it is above that
abbrev pub capped : ℕ → ℤ
capped n = pos (min n greatest_number)
