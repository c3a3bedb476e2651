-- Lines by their bytes: a key and its numbers, and the text of many lines.
use Rattle.std.specs.Prelude.{ℕ, List, [], ◌∷◌, ◌++◌, ℤ, pos}
use Rattle.text.specs.Text.{line_text}

-- a line: its key, with the equals sign, and its numbers
pub record Line : Type 0 where
  pub key : List ℕ
  pub values : List ℤ

-- its text
abbrev pub line_text_of : Line → List ℕ
line_text_of l = line_text l.key l.values

-- the texts of lines, one after the other
unfoldable pub lines_text : List Line → List ℕ
lines_text [] = []
lines_text (l ∷ ls) = line_text_of l ++ lines_text ls

-- a line with one number
abbrev pub count_line : List ℕ → ℕ → Line
count_line k n = record { key = k; values = pos n ∷ [] }

-- what stands past the lines
abbrev pub no_line : Line
no_line = record { key = []; values = [] }
