use Rattle.std.proofs.Common.{◌≡◌, ℕ, ◌<◌, length}
use Rattle.sizes.specs.Sizes.{most_operations}
use Rattle.laws.specs.Entry.{at}
use Rattle.walks.specs.Rounds.{relaxed_z}
use Rattle.walks.proofs.table.relaxed_row.Given as goal

abbrev pub invariant-loop-v : goal.invariant-loop-v
invariant-loop-v l = (length l.place-items ≡ most_operations) × ((k : ℕ) → k < l.v → at l.place-items k ≡ relaxed_z (at l.fn.row k) (at l.fn.by k) l.fn.weight)
