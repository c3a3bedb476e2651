use Rattle.std.proofs.Common.{◌≡◌, ℕ, ◌<◌, ◌≤◌, length, pos}
use Rattle.sizes.specs.Sizes.{most_edges}
use Rattle.laws.specs.Entry.{at}
use Rattle.dependence.specs.Graph.{total}
use Rattle.dependence.proofs.edge_totals.totals_of.Given as goal

-- the totals so far, and 0 past them
abbrev pub invariant-loop-k : goal.invariant-loop-k
invariant-loop-k l = record {
  long : length l.out ≡ most_edges;
  each : (i : ℕ) → i < l.k → at l.out i ≡ total l.fn.graph l.fn.interval i;
  rest : (i : ℕ) → l.k ≤ i → i < most_edges → at l.out i ≡ pos 0;
}
