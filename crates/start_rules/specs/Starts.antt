-- The starts that one operation may have, as a row of flags.
use Rattle.std.specs.Prelude.{Bool, false, List, ℕ, ◌<◌, get_or}
use Rattle.sizes.specs.Sizes.{most_starts}
use Rattle.laws.specs.Says.{Says}
use Rattle.sheet.specs.declared.Sheet.{Sheet}
use Rattle.plan.specs.Rules.{StartAllowed}

-- a row has exactly the starts that operation i allows
pub record RowFor (s : Sheet) (L i : ℕ) (row : List Bool) : Type 0 where
  pub start : (t : ℕ) → t < most_starts → Says (StartAllowed s L i t) (get_or row t false)
