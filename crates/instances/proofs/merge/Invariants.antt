use Rattle.std.proofs.Common.{◌≡◌, ℕ, ◌<◌, length}
use Rattle.sizes.specs.Sizes.{most_operations}
use Rattle.laws.specs.Entry.{vec}
use Rattle.instances.proofs.merge.Given as goal

abbrev pub invariant-loop-i : goal.invariant-loop-i
invariant-loop-i l =
    (length l.out ≡ most_operations)
    × ((j : ℕ) → j < l.i → vec l.ops.resource.now j ≡ l.kind → vec l.out j ≡ vec l.inside j)
    × ((j : ℕ) → (vec l.ops.resource.now j ≡ l.kind → ⊥) → vec l.out j ≡ vec l.outside j)
