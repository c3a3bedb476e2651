-- Marks of the operations, a flag for each. Assumes nothing.
use Rattle.std.specs.Prelude.{◌≡◌, Bool, false, ◌||◌, List, ℕ, ◌<◌, get_or}
use Rattle.sizes.specs.Sizes.{most_operations}

-- whether operation k is marked
abbrev pub marked : List Bool → ℕ → Bool
marked l k = get_or l k false

-- r marks what a or b marks, and nothing else
pub record EitherMarked (a b r : List Bool) : Type 0 where
  pub mark : (k : ℕ) → k < most_operations → marked r k ≡ (marked a k || marked b k)
