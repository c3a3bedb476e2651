use Rattle.std.proofs.Common.{ℕ, ◌<◌}
use Rattle.laws.specs.Entry.{vec}
use Rattle.task.specs.Plan.{type_of, instances_of, busy_of, Overfull}
use Rattle.task.proofs.room_kept.Given as goal

abbrev pub invariant-loop-i : goal.invariant-loop-i
invariant-loop-i l = (k : ℕ) → k < l.i → Overfull l.p.ops (type_of l.p) (instances_of l.p) (busy_of l.p) l.p.interval (vec l.starts) k → ⊥
