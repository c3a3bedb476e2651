use Rattle.std.proofs.Common.{rules, arith, refl}
use Rattle.std.proofs.lemmas.Grind.{common_steps}
use Rattle.laws.specs.Entry.{at}
use Rattle.laws.specs.Z.{kept}
use Rattle.net.specs.Net.{web_of, arc_at}
use Rattle.walks.specs.Table.{back_step}
use Rattle.walks.specs.Trail.{arc_middle, picked_here, passed_more}
use Rattle.bad_walks.proofs.pick.Goals as goal

pub goes_on-requires : goal.goes_on-requires
goes_on-requires c =
    let from = (arc_at c.args.net c.loop-e.e).from in (
      (rw (kept c.ranges.s) c.requires.2),
      arc_middle {e = c.loop-e.e} {i = from} {j = c.from-j.result} c.requires.0
          (record { from = refl; weight = grind (arith, common_steps); to = grind (arith, common_steps) }) (search rules),
      back_step c.args.row {e = c.loop-e.e} {i = from} {j = c.from-j.result} c.requires.0 c.requires.1
          (record { from = refl; weight = grind (arith, common_steps); to = grind (arith, common_steps) }) (search rules) (search rules),
    )

pub loop-e-preserved : goal.loop-e-preserved
loop-e-preserved c = passed_more {g = web_of c.args.net} (at c.args.row) _ {e = c.loop-e.e} {j = c.from-j.result} c.loop-e.invariant c.goes_on.ensures c.if-goes_on.false
    (record { from = grind (arith, common_steps); weight = grind (arith, common_steps); to = grind (arith, common_steps) }) (search rules)

pub returns-then-goes_on : goal.returns-then-goes_on
returns-then-goes_on c =
    let inv = rw (kept c.ranges.s) at c.loop-e.invariant in
    let said = rw (kept c.ranges.s) at c.goes_on.ensures in
    picked_here (at c.args.row) _ {j = c.from-j.result} inv said c.if-goes_on.true
    (record { from = grind (arith, common_steps); weight = grind (arith, common_steps); to = grind (arith, common_steps) }) (search rules) (search rules)
