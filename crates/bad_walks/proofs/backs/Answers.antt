use Rattle.std.proofs.Common.{◌≡◌, ℕ, ◌<◌, [], rules, arith}
use Rattle.sizes.specs.Sizes.{most_operations}
use Rattle.laws.specs.Entry.{at}
use Rattle.laws.specs.Store.{store_more}
use Rattle.net.specs.Net.{web_of}
use Rattle.walks.specs.Rounds.{rounds}
use Rattle.walks.specs.Back.{row_still, row_next, row_bounded}
use Rattle.bad_walks.proofs.backs.Goals as goal

pub loop-r-init : goal.loop-r-init
loop-r-init c = (search rules, row_still _ _ c.still_row-row.result c.still_row-row.ensures, record { rows = λ x h. absurd (omega arith) })

pub back_row-next-requires : goal.back_row-next-requires
back_row-next-requires c = let n = c.requires.0 in
    (n, row_bounded n c.loop-r.r c.args.v (omega arith) c.loop-r.row c.loop-r.invariant.1)

pub loop-r-preserved : goal.loop-r-preserved
loop-r-preserved c = let l = c.loop-r in (
  search rules,
  row_next c.requires.0 l.r c.args.v l.row c.back_row-next.result l.invariant.1 c.back_row-next.ensures,
  record { rows = store_more (λ x row. (u : ℕ) → u < most_operations → at row u ≡ rounds (web_of c.args.net) x u c.args.v) l.out l.r l.row [] (omega arith) l.invariant.1 l.invariant.2.rows },
)
