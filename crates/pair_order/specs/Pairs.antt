-- Pair numbers: operations i < j form pair j × (j − 1) / 2 + i.
use Rattle.std.specs.Prelude.{◌≡◌, ℕ, ◌+◌, ◌*◌, ◌-◌, ◌/◌, ◌<◌}

-- the pairs of n operations: N × (N − 1) / 2
abbrev pub pair_count : ℕ → ℕ
pair_count n = n * (n - 1) / 2

-- question 14: the pair number is below N × (N − 1) / 2
abbrev pub PairNumber : ℕ → ℕ → Type 0
PairNumber n pair = pair < pair_count n

-- operations i < j of n form this pair: j × (j − 1) / 2 + i
pub record Pair (n pair i j : ℕ) : Type 0 where
  pub before : i < j
  pub within : j < n
  pub number : pair ≡ pair_count j + i
