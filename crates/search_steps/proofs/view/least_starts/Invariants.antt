use Rattle.std.proofs.Common.{◌≡◌, ℕ, ◌<◌, length}
use Rattle.sizes.specs.Sizes.{most_operations}
use Rattle.laws.specs.Entry.{vec}
use Rattle.domain.specs.Domain.{row_of, Least}
use Rattle.search_steps.proofs.view.least_starts.Given as goal

abbrev pub invariant-loop-i : goal.invariant-loop-i
invariant-loop-i l = (length l.x ≡ most_operations) × ((k : ℕ) → k < l.i → Least (row_of l.d k) (vec l.x k))
