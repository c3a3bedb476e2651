use Rattle.std.proofs.Common.{◌≡◌, ℕ, ◌<◌, ◌*◌, ◌/◌, ◌%◌, length}
use Rattle.sizes.specs.Sizes.{most_operations}
use Rattle.laws.specs.Entry.{at}
use Rattle.domain.specs.Domain.{has}
use Rattle.relax.specs.Relax.{InnerLag}
use Rattle.anchor.proofs.inner_lags.Given as goal

abbrev pub invariant-loop-k : goal.invariant-loop-k
invariant-loop-k l = (length l.out ≡ most_operations * most_operations) × ((x : ℕ) → x < l.k → InnerLag (has l.c (x / most_operations)) (has l.c (x % most_operations)) (at l.lag x) (at l.out x))
