use Rattle.std.proofs.Common.{◌≡◌, ℕ, ◌+◌, ◌<◌, length}
use Rattle.sizes.specs.Sizes.{most_starts}
use Rattle.domain.specs.Domain.{has}
use Rattle.support.specs.Support.{most_shift, At}
use Rattle.support.proofs.rows.supported_both.Given as goal

abbrev pub invariant-loop-t : goal.invariant-loop-t
invariant-loop-t l = (length l.out ≡ most_starts) × (l.limit + l.there ≡ l.t + most_shift + 1) × ((k : ℕ) → k < l.t → At l.next (has l.row k) l.there l.back k (has l.out k))
