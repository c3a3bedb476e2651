-- An edge that is left is the graph's, and its total is near 0.
use Rattle.std.proofs.Common.{◌∙◌, arith, drop_of_length-le}
use Rattle.laws.specs.Z.{kept}
use Rattle.tree_boxes.specs.Within.{within_more, within_fits, within_sum}
use Rattle.tree_nodes.specs.Chain.{walk_on, walk_off, walk_done, front, below_first, below_rest}
use Rattle.tree_nodes.proofs.chain.follow.Goals as goal

pub offset_bounds-graph-k : goal.offset_bounds-graph-k
offset_bounds-graph-k c =
    omega (arith, below_first (front _ _ c.loop-k-test.true) c.loop-k.invariant.below, c.requires.in_range.0.count_ok)

pub bounds-graph-k : goal.bounds-graph-k
bounds-graph-k c =
    omega (arith, below_first (front _ _ c.loop-k-test.true) c.loop-k.invariant.below, c.requires.in_range.0.count_ok)

pub returns-then-e-end-clause-result_value : goal.returns-then-e-end-clause-result_value
returns-then-e-end-clause-result_value c =
    let l = c.loop-k in
    walk_off c.args.graph c.args.totals.now l.end _ (front _ _ c.loop-k-test.true) c.if-e-end.true ∙ l.invariant.same

pub offset_bounds-totals-k : goal.offset_bounds-totals-k
offset_bounds-totals-k c =
    omega (arith, below_first (front _ _ c.loop-k-test.true) c.loop-k.invariant.below, c.requires.in_range.0.count_ok)

pub bounds-totals-k : goal.bounds-totals-k
bounds-totals-k c =
    omega (arith, below_first (front _ _ c.loop-k-test.true) c.loop-k.invariant.below, c.requires.in_range.0.count_ok)

pub overflow_add-sum : goal.overflow_add-sum
overflow_add-sum c =
    let l = c.loop-k in
    let n = c.requires.in_range.1 _ (below_first (front _ _ c.loop-k-test.true) l.invariant.below) in
    let m = l.invariant.walking.sum in
    let few = c.requires.few in
    let h = c.loop-k-test.true in
    rw (kept (within_fits (omega arith) n)) (within_fits (omega arith) (within_sum m n))

pub loop-k-preserved : goal.loop-k-preserved
loop-k-preserved c =
    let l = c.loop-k in
    let v = front _ _ c.loop-k-test.true in
    let known = below_first v l.invariant.below in
    let n = c.requires.in_range.1 _ known in
    let m = l.invariant.walking.sum in
    let few = c.requires.few in
    let h = c.loop-k-test.true in
    rw (kept (within_fits (omega arith) n), kept (within_fits (omega arith) (within_sum m n))) (record {
      below = below_rest v l.invariant.below;
      same = walk_on c.args.graph c.args.totals.now l.end _ v c.if-e-end.false ∙ l.invariant.same;
      walking = record { end = (c.requires.in_range.0.edge_ok _ known).to_ok; sum = within_more (omega arith) (within_sum m n) };
    })

pub returns-clause-result_value : goal.returns-clause-result_value
returns-clause-result_value c =
    let l = c.loop-k in
    walk_done c.args.graph c.args.totals.now l.end _ (drop_of_length-le c.args.edges.now (omega arith)) ∙ l.invariant.same
