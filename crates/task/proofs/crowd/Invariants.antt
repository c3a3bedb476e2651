use Rattle.std.proofs.Common.{◌≡◌, ◌≤◌}
use Rattle.laws.specs.Entry.{vec}
use Rattle.laws.specs.Count.{tally}
use Rattle.held_slots.specs.Seated.{near_w}
use Rattle.task.specs.Plan.{type_of, busy_of}
use Rattle.task.proofs.crowd.Given as goal

abbrev pub invariant-loop-i : goal.invariant-loop-i
invariant-loop-i l = (l.c ≤ l.i) × (l.c ≡ tally l.i (near_w (type_of l.p) (vec l.starts) l.p.interval l.kind l.slot (busy_of l.p l.kind)))
