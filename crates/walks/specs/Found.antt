-- What the two functions of this crate give: the greatest sums over walks, and the first bad closed walk.
use Rattle.std.specs.Prelude.{◌≡◌, List, ℕ, ◌≤◌, ◌<◌, ℤ, negsuc, ◌<ℤ◌, length, get_or}
use Rattle.std.proofs.Math.Seq.{slice}
use Rattle.sizes.specs.Sizes.{most_operations}
use Rattle.laws.specs.Entry.{cell}
use Rattle.net.specs.Walk.{Web, Walk}
use Rattle.net.specs.Meaning.{Separation, FirstBad}

-- the mark of a pair of operations with no walk: below every sum
abbrev pub no_walk : ℤ
no_walk = negsuc 999999

-- a cell: the mark exactly when there is no walk of at least one edge, or the greatest sum
pub data SepCell (g : Web) (i j : ℕ) (z : ℤ) : Type 0 where
  sep_none : z ≡ no_walk → ((p : List ℕ) → 0 < length p → Walk g i j p → ⊥) → SepCell g i j z
  sep_some : no_walk <ℤ z → Separation g i j z → SepCell g i j z

-- a table of them
pub record Greatest (g : Web) (t : List (List ℤ)) : Type 0 where
  pub cells : (i j : ℕ) → i < most_operations → j < most_operations → SepCell g i j (cell t i j)

-- the first bad closed walk: how many edges it has, and their numbers with 0 past them
pub record FirstLoop (g : Web) (size : ℕ) (edges : List ℕ) : Type 0 where
  pub first : FirstBad g (slice 0 size edges)
  pub few : size ≤ g.ops
  pub past : (j : ℕ) → size ≤ j → get_or edges j 0 ≡ 0
