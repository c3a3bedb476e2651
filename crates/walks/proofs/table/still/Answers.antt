use Rattle.std.proofs.Common.{◌≡◌, [], rules, arith}
use Rattle.laws.specs.Entry.{at}
use Rattle.laws.specs.Store.{store_more}
use Rattle.walks.specs.Table.{still_z}
use Rattle.walks.proofs.table.still.Goals as goal

pub loop-u-preserved : goal.loop-u-preserved
loop-u-preserved c = (
  search rules,
  λ u v hu hv.
      store_more (λ k z. at z v ≡ still_z k v) c.loop-u.row-items c.loop-u.u _ [] (omega arith) (c.still_row.ensures v hv) (λ k h. c.loop-u.invariant.1 k v h hv) u hu,
)
