-- One cell of a table, for a C call that gives the table cell by cell.
use Rattle.std.specs.Prelude.{◌≡◌, List, ℕ, ◌<◌, ℤ, pos}
use Rattle.sizes.specs.Sizes.{most_operations}
use Rattle.laws.specs.Entry.{cell}

-- the cell in row i and column j of a table, and 0 past its rows and columns
pub data CellAt (t : List (List ℤ)) (i j : ℕ) (z : ℤ) : Type 0 where
  cell_inside : i < most_operations → j < most_operations → z ≡ cell t i j → CellAt t i j z
  cell_past : ¬ ((i < most_operations) × (j < most_operations)) → z ≡ pos 0 → CellAt t i j z

-- such a cell of the table that the answer P tells
pub record CellOf (P : List (List ℤ) → Type 0) (i j : ℕ) (z : ℤ) : Type 0 where
  pub table : List (List ℤ)
  pub answer : P table
  pub cell : CellAt table i j z
