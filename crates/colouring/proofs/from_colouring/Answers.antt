use Rattle.std.proofs.Common.{refl, arith, length-set}
use Rattle.laws.specs.Entry.{vec}
use Rattle.colouring.specs.Laws.{all_bare, extends_all, lead_start, lead_least, lead_done, least_more}
use Rattle.colouring.proofs.from_colouring.Goals as goal

pub loop-k-init : goal.loop-k-init
loop-k-init c = let s = c.args in (refl, refl, λ g. lead_start s.q.count s.q.edges.now s.q.limit g _ _ (all_bare s.q.count_ok), extends_all (all_bare s.q.count_ok) (vec s.some.now) c.requires.1)

pub least_at-better-requires : goal.least_at-better-requires
least_at-better-requires c = let q = c.requires in let l = c.loop-k in let z = l.invariant.2 q.0 in (q.0, z.partial, c.loop-k-test.true, z.later l.k c.loop-k-test.true (omega arith), l.invariant.3)

pub loop-k-preserved : goal.loop-k-preserved
loop-k-preserved c = let s = c.args in let q = c.requires in let l = c.loop-k in let h = c.loop-k-test.true in (
  simp length-set l.invariant.0,
  simp length-set l.invariant.1,
  λ g. lead_least s.q.count s.q.edges.now s.q.limit g l.done l.colours l.k _ h (omega arith) (omega arith) (l.invariant.2 g) c.least_at-better.ensures refl,
  least_more s.q.count s.q.edges.now s.q.limit q.0 l.done l.colours h ((l.invariant.2 q.0).later l.k h (omega arith)) (omega arith) (omega arith) c.least_at-better.ensures,
)

pub returns : goal.returns
returns c = let s = c.args in let l = c.loop-k in lead_done s.q.count s.q.edges.now s.q.limit c.requires.0 l.done l.colours (l.invariant.2 c.requires.0) (omega arith)
