-- What is accepted, in the words of the theorems.
use Rattle.std.specs.Prelude.{◌≡◌, List, ℕ, take}
use Rattle.sheet.specs.declared.Sheet.{Sheet}
use Rattle.sheet.specs.Sheet.{Arrays, InRange}
use Rattle.sheet.specs.Text.{sheet_text}
use Rattle.reader.specs.Read.{sheet_of, accepted, read_of}

-- the sheet with 0 past its counts
abbrev pub trimmed : Sheet → Sheet
trimmed s =
    sheet_of s.horizon s.cap (take s.type_count s.types) (take s.op_count s.ops) (take s.edge_count s.edges)

-- the bytes are the text of a sheet in range with 0 past its counts, and that sheet is the result
pub record Accepted (bs : List ℕ) : Type 0 where
  pub sheet : Sheet
  pub in_range : InRange sheet
  pub arrays : Arrays sheet
  pub zeros : trimmed sheet ≡ sheet
  pub text : bs ≡ sheet_text sheet
  pub result : read_of bs ≡ accepted sheet
