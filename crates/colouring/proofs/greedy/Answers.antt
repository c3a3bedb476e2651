use Rattle.std.proofs.Common.{refl, arith, length-set}
use Rattle.colouring.specs.Laws.{all_bare, lead_start, lead_next, lead_done, lowest_left}
use Rattle.colouring.proofs.greedy.Goals as goal

pub loop-k-init : goal.loop-k-init
loop-k-init c = let s = c.args in (refl, refl, λ g. lead_start s.q.count s.q.edges.now s.q.limit g _ _ (all_bare s.q.count_ok))

pub loop-k-preserved : goal.loop-k-preserved
loop-k-preserved c = let s = c.args in let l = c.loop-k in let e = c.in_ok-colours.ensures in let h = c.loop-k-test.true in (
  simp length-set l.invariant.0,
  simp length-set l.invariant.1,
  λ g. lead_next s.q.count s.q.edges.now s.q.limit g l.done l.colours l.k c.in_ok-colours.field-0 h (omega arith) (omega arith) (l.invariant.2 g) e.0 e.1 (lowest_left s.q.count s.q.edges.now s.q.limit g l.done l.colours h e.2),
)

pub returns : goal.returns
returns c = let s = c.args in let l = c.loop-k in lead_done s.q.count s.q.edges.now s.q.limit c.requires l.done l.colours (l.invariant.2 c.requires) (omega arith)
