use Rattle.std.proofs.Common.{◌<◌, subst, below_more, get_or-take, length-take, arith}
use Rattle.dependence.specs.declared.Edge.{Edge}
use Rattle.dependence.specs.Graph.{no_edge, EdgeOk}
use Rattle.dependence.proofs.questions.edges_ok.Goals as goal

-- the edges so far, and the one that was tested
pub loop-edge-preserved : goal.loop-edge-preserved
loop-edge-preserved c =
    let g = c.args.graph in
    let k = c.loop-edge.edge-index in
    let within : k < g.edge_count = omega (arith, c.loop-edge-test.true, length-take g.edge_count g.edges) in
    let is = get_or-take g.edge_count g.edges k no_edge within in
    below_more _ _ c.loop-edge.invariant
    (subst (λ (e : Edge). EdgeOk g.ops e.from e.to e.delay e.distance) is (c.edge_ok.ensures.yes c.if-not-edge_ok.false))
