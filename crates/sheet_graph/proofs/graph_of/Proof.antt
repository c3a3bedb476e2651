-- `sheet_graph::graph_of` meets its contract: the latencies are the definition's, the rest is copied.
-- Assumes nothing.
use mathlib.Core.Path.{ap}
use mathlib.Core.List.{List}
use Prim.Native.Nat.{ℕ}
use borrow.Author.Rules.{rules}
use Rattle.sheet_graph.proofs.graph_of.Statement.{statement}
use Rattle.sheet_graph.proofs.graph_of.Tie as tie

latencies_requires : tie.Need-latencies-latency-requires
latencies_requires c κs = search rules

returns : tie.Need-returns
returns c =
    ap (λ (l : List ℕ). record {
      ops = c.args.sheet.op_count;
      latency = l;
      edge_count = c.args.sheet.edge_count;
      edges = c.args.sheet.edges;
    })
    c.latencies-latency.ensures

pub graph_of_spec : {M : Type 1} → statement M
graph_of_spec = tie.close (tie.spec latencies_requires returns)
