-- The sheet's graph is in range, so its totals are given.
use Rattle.std.proofs.Common.{◌<◌, sym, subst}
use Rattle.dependence.specs.declared.Graph.{Graph}
use Rattle.dependence.specs.Graph.{InRange}
use Rattle.sheet.specs.Facts.{graph_in_range, interval_in_range}
use Rattle.rules.specs.Totals.{totals_are}
use Rattle.tree_nodes.specs.Chain.{followed, totals_near}
use Rattle.tree_nodes.proofs.chain.chained.Goals as goal

pub follow-requires-clause-in_range : goal.follow-requires-clause-in_range
follow-requires-clause-in_range c =
    let p = c.requires.in_range in
    let e = sym c.graph_of-graph.ensures in
    let ok = subst InRange e (graph_in_range p.0) in
    let iv = interval_in_range p.0 p.1 in
    (ok, totals_near ok iv (totals_are ok iv c.totals-found.ensures), subst (λ (g : Graph). c.args.start < g.ops) e p.2)

pub returns : goal.returns
returns c =
    let p = c.requires.in_range in
    let ok = graph_in_range p.0 in
    let iv = interval_in_range p.0 p.1 in
    let t = totals_are ok iv (rw c.graph_of-graph.ensures at c.totals-found.ensures) in
    followed t c.args.start c.args.edges.now c.follow.result c.requires.below
    (rw c.graph_of-graph.ensures at c.follow.ensures.result_value)
    (rw c.graph_of-graph.ensures at c.follow.ensures.walking)
