use Rattle.std.proofs.Common.{ℕ, ◌<◌}
use Rattle.laws.specs.Says.{Says}
use Rattle.domain.specs.Domain.{has}
use Rattle.colouring.specs.Parts.{Clear}
use Rattle.colouring.proofs.clear.clear_row.Given as goal

abbrev pub invariant-loop-v : goal.invariant-loop-v
invariant-loop-v l = (x : ℕ) → x < l.v → Says (Clear l.q.count l.q.edges.now l.done l.colours l.node x) (has l.flag-items x)
