use Rattle.std.proofs.Common.{◌≡◌, ◌||◌, ℕ, ◌<◌, ◌≤◌, length}
use Rattle.sizes.specs.Sizes.{most_operations}
use Rattle.narrow.specs.Marks.{marked}
use Rattle.narrow.proofs.marked_in_either.Given as goal

-- the marks so far are joined, the rest are as they were
abbrev pub invariant-loop-k : goal.invariant-loop-k
invariant-loop-k l =
    (length l.mark-items ≡ most_operations)
    × ((i : ℕ) → i < l.k → marked l.mark-items i ≡ (marked l.fn.a i || marked l.fn.b i))
    × ((i : ℕ) → l.k ≤ i → marked l.mark-items i ≡ marked l.fn.a i)
