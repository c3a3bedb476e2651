use Rattle.std.proofs.Common.{◌≡◌, ℕ, ◌<◌, true, length}
use Rattle.sizes.specs.Sizes.{most_operations}
use Rattle.domain.specs.Domain.{has}
use Rattle.task.specs.Plan.{PlanOf}
use Rattle.relax.specs.Relax.{Within}
use Rattle.anchor.proofs.cluster.Given as goal

abbrev pub invariant-loop-j : goal.invariant-loop-j
invariant-loop-j l = (length l.c ≡ most_operations) × ((k : ℕ) → k < l.j → has l.c k ≡ true → (t : ℕ → ℕ) → PlanOf l.p t → Within l.i k t)
