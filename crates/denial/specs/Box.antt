-- A box: the starts and the instances that are left to each operation, and the two parts that a split or a seat makes
-- of it.
use Rattle.std.specs.Prelude.{cond, ℕ, ◌+◌, ◌≤◌, ◌<◌, min, max, eqb, ℤ, pos, ◌≤ℤ◌}
use Rattle.std.specs.Int.Signed.{le_z}

-- the lowest and the highest start left to each operation, and its lowest and highest instance; a highest start may be
-- negative, and then no start is left
pub record Box : Type 0 where
  pub lowest : ℕ → ℕ
  pub highest : ℕ → ℤ
  pub first : ℕ → ℕ
  pub last : ℕ → ℕ

-- the starts t and the instances u are left, to each of n operations
pub record Inside (n : ℕ) (b : Box) (t u : ℕ → ℕ) : Type 0 where
  pub low : (i : ℕ) → i < n → b.lowest i ≤ t i
  pub high : (i : ℕ) → i < n → pos (t i) ≤ℤ b.highest i
  pub first : (i : ℕ) → i < n → b.first i ≤ u i
  pub last : (i : ℕ) → i < n → u i ≤ b.last i

-- f, but x at i
unfoldable pub changed : {A : Type 0} → ℕ → A → (ℕ → A) → ℕ → A
changed i x f j = cond (eqb j i) x (f j)

-- the lesser of z and v
unfoldable pub lesser : ℤ → ℕ → ℤ
lesser z v = cond (le_z z (pos v)) z (pos v)

-- ---- the parts of a cut: it changes one bound of i, and can only narrow

-- `split=i,v`, first part: starts of i up to v
unfoldable pub starts_to : Box → ℕ → ℕ → Box
starts_to b i v = record {
  lowest = b.lowest;
  highest = changed i (lesser (b.highest i) v) b.highest;
  first = b.first;
  last = b.last;
}

-- second part: starts of i above v
unfoldable pub starts_above : Box → ℕ → ℕ → Box
starts_above b i v = record {
  lowest = changed i (max (b.lowest i) (v + 1)) b.lowest;
  highest = b.highest;
  first = b.first;
  last = b.last;
}

-- `seat=i,k`, first part: instances of i up to k
unfoldable pub instances_to : Box → ℕ → ℕ → Box
instances_to b i k = record {
  lowest = b.lowest;
  highest = b.highest;
  first = b.first;
  last = changed i (min (b.last i) k) b.last;
}

-- second part: instances of i above k
unfoldable pub instances_above : Box → ℕ → ℕ → Box
instances_above b i k = record {
  lowest = b.lowest;
  highest = b.highest;
  first = changed i (max (b.first i) (k + 1)) b.first;
  last = b.last;
}
