use Rattle.std.proofs.Common.{ℕ, ◌<◌}
use Rattle.laws.specs.Entry.{vec}
use Rattle.task.specs.Plan.{TypeSeated}
use Rattle.task.proofs.seated.Given as goal

abbrev pub invariant-loop-kind : goal.invariant-loop-kind
invariant-loop-kind l = (m : ℕ) → m < l.kind → TypeSeated l.p m (vec l.starts)
