use Rattle.std.proofs.Common.{ℕ, ◌≤◌, ◌<◌, ◌∙◌, refl, arith, rules}
use Rattle.laws.specs.Z.{zed}
use Rattle.dependence.specs.Graph.{view_small}
use Rattle.dependence.proofs.edge_totals.net_of.Goals as goal

-- the net has the graph's edges, each with its total
pub returns : goal.returns
returns c =
    let l = c.loop-k.invariant in
    let t = c.totals_of-weight.ensures in
    let n = c.requires.0 in
    let small = view_small n c.requires.1 in
    let all : c.args.graph.edge_count ≤ c.loop-k.k = search rules in
    let at : (k : ℕ) → k < c.args.graph.edge_count → k < c.loop-k.k = λ k h. omega arith in (
      record {
        ops_ok = n.ops_ok;
        count_ok = n.count_ok;
        small = record {
          whole = record { from_ok = λ k h. omega (arith, l.from k (at k h), small.whole.from_ok k h); to_ok = λ k h. omega (arith, l.to k (at k h), small.whole.to_ok k h) };
          low = λ k h. omega (arith, zed, l.weight k (at k h), t.each k h, small.low k h);
          high = λ k h. omega (arith, zed, l.weight k (at k h), t.each k h, small.high k h);
        };
      },
      record { ops = refl; count = refl; from = λ k h. l.from k (at k h); to = λ k h. l.to k (at k h); weight = λ k h. l.weight k (at k h) ∙ t.each k h },
    )
