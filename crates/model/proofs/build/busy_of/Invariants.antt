use Rattle.std.proofs.Common.{◌≡◌, ℕ, ◌<◌, ◌≤◌, length, get_or}
use Rattle.sizes.specs.Sizes.{most_types}
use Rattle.sheet.specs.Sheet.{type_at}
use Rattle.model.proofs.build.busy_of.Given as goal

abbrev pub invariant-loop-r : goal.invariant-loop-r
invariant-loop-r l = (length l.busy ≡ most_types) × ((k : ℕ) → k < l.r → get_or l.busy k 0 ≡ (type_at l.sheet k).busy) × ((k : ℕ) → l.r ≤ k → k < most_types → get_or l.busy k 0 ≡ 1)
