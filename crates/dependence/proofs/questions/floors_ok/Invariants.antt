use Rattle.std.proofs.Common.{ℕ, ◌<◌, ◌≤◌}
use Rattle.laws.specs.Entry.{vec}
use Rattle.net.specs.Net.{highest_floor}
use Rattle.dependence.proofs.questions.floors_ok.Given as goal

abbrev pub invariant-loop-at : goal.invariant-loop-at
invariant-loop-at l = (i : ℕ) → i < l.at-index → vec l.fn.floor i ≤ highest_floor
