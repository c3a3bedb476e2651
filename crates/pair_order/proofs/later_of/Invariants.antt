-- The pairs of j begin at the pair or before it.
use Rattle.std.proofs.Common.{◌≤◌}
use Rattle.pair_order.specs.Pairs.{pair_count}
use Rattle.pair_order.proofs.later_of.Given as goal

abbrev pub invariant-loop-j : goal.invariant-loop-j
invariant-loop-j l = pair_count l.j ≤ l.pair
