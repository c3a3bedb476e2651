use Rattle.std.proofs.Common.{◌≡◌, ℕ, ◌<◌, ◌≤◌, length, get_or}
use Rattle.sizes.specs.Sizes.{most_types}
use Rattle.sheet.specs.Sheet.{type_at}
use Rattle.model.proofs.build.limits_of.Given as goal

abbrev pub invariant-loop-r : goal.invariant-loop-r
invariant-loop-r l = (length l.limits ≡ most_types) × ((k : ℕ) → k < l.r → get_or l.limits k 0 ≡ (type_at l.sheet k).instances) × ((k : ℕ) → l.r ≤ k → get_or l.limits k 0 ≡ 0)
