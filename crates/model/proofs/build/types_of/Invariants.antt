use Rattle.std.proofs.Common.{◌≡◌, ℕ, ◌<◌, length, get_or}
use Rattle.sizes.specs.Sizes.{most_operations}
use Rattle.sheet.specs.Sheet.{op_at}
use Rattle.model.proofs.build.types_of.Given as goal

abbrev pub invariant-loop-i : goal.invariant-loop-i
invariant-loop-i l = (length l.resource ≡ most_operations) × ((k : ℕ) → k < l.i → get_or l.resource k 0 ≡ (op_at l.sheet k).resource)
