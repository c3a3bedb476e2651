-- The line at fault of bytes that are no sheet.
use Rattle.std.specs.Prelude.{ℕ, ◌+◌, ◌-◌, List, eqb, length, get_or}
use Rattle.laws.specs.Count.{tally}
use Rattle.sheet.specs.declared.Sheet.{Sheet}
use Rattle.sheet_lines.specs.Found.{Found, found, refused}
use Rattle.reader.specs.Read.{whole_from}

-- the byte that ends a line
abbrev pub line_feed : ℕ
line_feed = 10

-- the number of the line that the byte at a place belongs to: 1, and the line feeds before the place
unfoldable pub line_number : ℕ → List ℕ → ℕ
line_number at bs = 1 + tally at (λ i. eqb (get_or bs i 0) line_feed)

-- the line of bs that what is refused begins in; 0 where nothing is
abbrev pub fault_at : List ℕ → Found Sheet → ℕ
fault_at bs (found s rest) = 0
fault_at bs (refused n rest) = line_number (length bs - length rest) bs

-- the line at fault, counted from 1, where reading refuses these bytes; 0 where it accepts them
unfoldable pub fault_of : List ℕ → ℕ
fault_of bs = fault_at bs (whole_from bs)
