use Rattle.std.proofs.Common.{◌≡◌, ℕ, ◌<◌, length}
use Rattle.sizes.specs.Sizes.{most_types}
use Rattle.laws.specs.Entry.{vec}
use Rattle.task.specs.Plan.{instances_of, busy_of}
use Rattle.relax.specs.Relax.{Limit}
use Rattle.relax.proofs.limits.Given as goal

abbrev pub invariant-loop-kind : goal.invariant-loop-kind
invariant-loop-kind l = (length l.out ≡ most_types) × ((k : ℕ) → k < l.kind → Limit (instances_of l.p k) (busy_of l.p k) l.slots (vec l.out k))
