use Rattle.std.proofs.Common.{◌≡◌, ◌≤◌, eqb}
use Rattle.laws.specs.Entry.{vec}
use Rattle.laws.specs.Count.{tally}
use Rattle.task.proofs.count_of.Given as goal

abbrev pub invariant-loop-i : goal.invariant-loop-i
invariant-loop-i l = (l.c ≤ l.i) × (l.c ≡ tally l.i (λ j. eqb (vec l.resource j) l.kind))
