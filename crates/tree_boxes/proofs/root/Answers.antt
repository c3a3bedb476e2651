-- An operation more has what is left to it at the root.
use Rattle.std.proofs.Common.{◌≡◌, ◌∙◌, arith, length-set, get_or-set_other}
use Rattle.laws.specs.Store.{store_more}
use Rattle.sheet.specs.Facts.{ops_most}
use Rattle.tree_boxes.specs.Bounds.{nothing, root_left}
use Rattle.tree_boxes.specs.Root.{root_agrees, root_small}
use Rattle.tree_boxes.proofs.root.Goals as goal

pub loop-i-preserved : goal.loop-i-preserved
loop-i-preserved c =
    let l = c.loop-i in
    let whole = l.invariant.whole in
    let most = ops_most c.requires in
    record {
      whole = length-set l.each l.i _ ∙ whole;
      front = store_more (λ k x. x ≡ root_left c.args.sheet k) l.each l.i _ nothing (omega arith) c.root_left.ensures
          l.invariant.front;
      rest = λ k a b. get_or-set_other l.each l.i k _ nothing (λ q. omega (arith, a, q))
          ∙ l.invariant.rest k (omega (arith, a)) b;
    }

pub returns : goal.returns
returns c =
    let l = c.loop-i in
    let e : l.i ≡ c.args.sheet.op_count = omega arith in
    let r = rw e at l.invariant in
    (root_agrees c.requires l.each r, root_small c.requires l.each r)
