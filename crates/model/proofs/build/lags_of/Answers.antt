use Rattle.std.proofs.Common.{◌/◌, ◌%◌, length-set, pos, arith, rules}
use Rattle.std.specs.Int.{w32}
use Rattle.sizes.specs.Sizes.{most_operations}
use Rattle.laws.specs.Entry.{cell}
use Rattle.laws.specs.Store.{store_more}
use Rattle.laws.specs.Z.{kept, fits32}
use Rattle.model.specs.Task.{Clipped}
use Rattle.model.proofs.build.lags_of.Goals as goal

pub loop-k-preserved : goal.loop-k-preserved
loop-k-preserved c =
    let l = c.loop-k in
    let w = c.args.table in (
      simp length-set l.invariant.0,
      simp length-set l.invariant.1,
      store_more (λ x z. Clipped (cell w (x / most_operations) (x % most_operations)) z) l.lag l.k _ (pos 0) (omega (arith, l.invariant.0, c.loop-k-test.true))
          (rw (kept {w = w32} {z = c.clipped-there.result} (fits32 c.clipped-there.type_inv))
          (rw (kept {w = w32} {z = cell w (l.k / most_operations) (l.k % most_operations)} (search (rules, fits32))) at c.clipped-there.ensures)) l.invariant.2,
    )
