use Rattle.std.proofs.Common.{ℕ, ◌<◌}
use Rattle.dependence.specs.Graph.{edge_at, EdgeOk}
use Rattle.dependence.proofs.questions.edges_ok.Given as goal

abbrev pub invariant-loop-edge : goal.invariant-loop-edge
invariant-loop-edge l =
    let g = l.fn.graph in
    (k : ℕ) → k < l.edge-index → EdgeOk g.ops (edge_at g k).from (edge_at g k).to (edge_at g k).delay (edge_at g k).distance
