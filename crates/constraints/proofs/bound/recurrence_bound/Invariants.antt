use Rattle.std.proofs.Common.{ℕ, List, ◌≤◌, ◌<◌}
use Rattle.dependence.specs.Rules as rule
use Rattle.constraints.proofs.bound.recurrence_bound.Given as goal

-- each interval so far has a bad closed walk
abbrev pub invariant-loop-l : goal.invariant-loop-l
invariant-loop-l l = (i : ℕ) → 1 ≤ i → i < l.l → (p : List ℕ) × rule.BadWalk l.fn.graph i p
