use Rattle.std.proofs.Common.{◌≡◌, ◌∙◌, arith, length}
use Rattle.scan_list.specs.List.{most_items}
use Rattle.scan_list.proofs.Lists.{items_last, items_more, held_more}
use Rattle.scan_list.proofs.read_items.Goals as goal

pub returns-in-Last-clause-result_value : goal.returns-in-Last-clause-result_value
returns-in-Last-clause-result_value c =
    let l = c.loop-i in
    let n : length l.values ≡ most_items = l.invariant.held.whole in
    let r = rw c.in-Last.is at c.in_ok-n.ensures in
    items_last _ l.i l.values _ c.loop-i-test.true (omega arith) _ _ r.result_value ∙ l.invariant.same

pub loop-i-preserved : goal.loop-i-preserved
loop-i-preserved c =
    let l = c.loop-i in
    let n : length l.values ≡ most_items = l.invariant.held.whole in
    let r = rw c.in-More.is at c.in_ok-n.ensures in
    record {
      within = r.within_item.0;
      held = held_more l.i l.values _ (omega arith) l.invariant.held r.within_item.1;
      same = items_more _ l.i l.values _ c.loop-i-test.true (omega arith) _ _ r.result_value ∙ l.invariant.same;
    }
