use Rattle.std.proofs.Common.{ℕ, ◌<◌}
use Rattle.laws.specs.Entry.{vec}
use Rattle.task.specs.Plan.{LagsFrom}
use Rattle.task.proofs.lags_kept.Given as goal

abbrev pub invariant-loop-i : goal.invariant-loop-i
invariant-loop-i l = (k : ℕ) → k < l.i → LagsFrom l.p.ops l.p.lag (vec l.starts) k
