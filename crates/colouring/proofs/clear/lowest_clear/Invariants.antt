use Rattle.std.proofs.Common.{ℕ, ◌<◌}
use Rattle.colouring.specs.Parts.{Clear}
use Rattle.colouring.proofs.clear.lowest_clear.Given as goal

abbrev pub invariant-loop-v : goal.invariant-loop-v
invariant-loop-v l = (x : ℕ) → x < l.v → Clear l.q.count l.q.edges.now l.done l.colours l.node x → ⊥
