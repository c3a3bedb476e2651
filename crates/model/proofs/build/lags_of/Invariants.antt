use Rattle.std.proofs.Common.{◌≡◌, ℕ, ◌<◌, ◌/◌, ◌%◌, length, get_or, pos}
use Rattle.sizes.specs.Sizes.{most_operations}
use Rattle.laws.specs.Entry.{cell}
use Rattle.model.specs.Task.{pairs, Clipped}
use Rattle.model.proofs.build.lags_of.Given as goal

abbrev pub invariant-loop-k : goal.invariant-loop-k
invariant-loop-k l = (length l.lag ≡ pairs) × (length l.near ≡ pairs) × ((x : ℕ) → x < l.k → Clipped (cell l.table (x / most_operations) (x % most_operations)) (get_or l.lag x (pos 0)))
