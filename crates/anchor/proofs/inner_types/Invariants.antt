use Rattle.std.proofs.Common.{◌≡◌, ℕ, ◌<◌, length}
use Rattle.sizes.specs.Sizes.{most_operations}
use Rattle.laws.specs.Entry.{vec}
use Rattle.domain.specs.Domain.{has}
use Rattle.relax.specs.Relax.{InnerType}
use Rattle.anchor.proofs.inner_types.Given as goal

abbrev pub invariant-loop-j : goal.invariant-loop-j
invariant-loop-j l = (length l.out ≡ most_operations) × ((k : ℕ) → k < l.j → InnerType (has l.c k) (vec l.resource k) (vec l.out k))
