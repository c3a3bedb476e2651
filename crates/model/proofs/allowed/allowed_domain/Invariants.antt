use Rattle.std.proofs.Common.{◌≡◌, ℕ, ◌<◌, length}
use Rattle.sizes.specs.Sizes.{most_operations}
use Rattle.domain.specs.Domain.{row_of}
use Rattle.start_rules.specs.Starts.{RowFor}
use Rattle.model.proofs.allowed.allowed_domain.Given as goal

abbrev pub invariant-loop-i : goal.invariant-loop-i
invariant-loop-i l = (length l.domain ≡ most_operations) × ((k : ℕ) → k < l.i → RowFor l.sheet l.interval k (row_of l.domain k))
