use Rattle.std.proofs.Common.{◌≡◌, ℕ, ◌<◌, get_or, length}
use Rattle.sizes.specs.Sizes.{most_edges}
use Rattle.laws.specs.Entry.{at}
use Rattle.net.specs.Net.{no_arc}
use Rattle.dependence.specs.Graph.{edge_at}
use Rattle.dependence.proofs.edge_totals.net_of.Given as goal

-- the edges so far
abbrev pub invariant-loop-k : goal.invariant-loop-k
invariant-loop-k l = record {
  long : length l.arcs ≡ most_edges;
  from : (i : ℕ) → i < l.k → (get_or l.arcs i no_arc).from ≡ (edge_at l.fn.graph i).from;
  to : (i : ℕ) → i < l.k → (get_or l.arcs i no_arc).to ≡ (edge_at l.fn.graph i).to;
  weight : (i : ℕ) → i < l.k → (get_or l.arcs i no_arc).weight ≡ at l.weight i;
}
