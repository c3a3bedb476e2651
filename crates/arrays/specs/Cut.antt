-- The front of an array.
use Rattle.std.specs.Prelude.{◌≡◌, List, ℕ, ◌<◌}
use Rattle.laws.specs.Entry.{vec, ZeroFrom}

-- ys: the first n numbers of xs, and 0 past them
pub record Cut (n : ℕ) (xs ys : List ℕ) : Type 0 where
  pub front : (i : ℕ) → i < n → vec xs i ≡ vec ys i
  pub back : ZeroFrom n ys
