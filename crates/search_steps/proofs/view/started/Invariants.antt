use Rattle.std.proofs.Common.{ℕ, ◌<◌}
use Rattle.sizes.specs.Sizes.{most_starts}
use Rattle.laws.specs.Entry.{vec}
use Rattle.search_steps.proofs.view.started.Given as goal

abbrev pub invariant-loop-i : goal.invariant-loop-i
invariant-loop-i l = (k : ℕ) → k < l.i → vec l.x k < most_starts
