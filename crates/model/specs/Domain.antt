-- The domain that the search begins with: exactly the starts that each operation allows by itself.
use Rattle.std.specs.Prelude.{Bool, List, ℕ, ◌<◌}
use Rattle.sizes.specs.Sizes.{most_operations}
use Rattle.domain.specs.Domain.{row_of}
use Rattle.sheet.specs.declared.Sheet.{Sheet}
use Rattle.start_rules.specs.Starts.{RowFor}

-- each row has exactly the starts that its operation allows
pub record DomainFor (s : Sheet) (L : ℕ) (ok : List (List Bool)) : Type 0 where
  pub row : (i : ℕ) → i < most_operations → RowFor s L i (row_of ok i)
