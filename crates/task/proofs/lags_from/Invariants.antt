use Rattle.std.proofs.Common.{ℕ, ◌<◌, pos, ◌+ℤ◌, ◌≤ℤ◌}
use Rattle.laws.specs.Entry.{vec}
use Rattle.task.specs.Plan.{lag_at}
use Rattle.task.proofs.lags_from.Given as goal

abbrev pub invariant-loop-j : goal.invariant-loop-j
invariant-loop-j l = (k : ℕ) → k < l.j → (pos (vec l.starts l.i) +ℤ lag_at l.p.lag l.i k) ≤ℤ pos (vec l.starts k)
