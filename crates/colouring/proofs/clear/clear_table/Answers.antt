use Rattle.std.proofs.Common.{[], arith, length-set}
use Rattle.laws.specs.Store.{store_more}
use Rattle.colouring.specs.Parts.{ClearRow}
use Rattle.colouring.proofs.clear.clear_table.Goals as goal

pub loop-k-preserved : goal.loop-k-preserved
loop-k-preserved c = let s = c.args in let l = c.loop-k in (
  simp length-set l.invariant.0,
  store_more (λ k row. ClearRow s.q.count s.q.edges.now s.done.now s.colours.now k row) l.table l.k _ [] (omega arith) c.clear_row.ensures l.invariant.1,
)
