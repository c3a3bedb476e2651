use Rattle.std.proofs.Common.{rules, arith, sym}
use Rattle.std.proofs.lemmas.Grind.{common_steps}
use Rattle.walks.specs.Table.{after_none, back_step}
use Rattle.walks.specs.Back.{row_more}
use Rattle.bad_walks.proofs.back_row.Goals as goal

pub loop-arc-init : goal.loop-arc-init
loop-arc-init c = (search rules, λ u hu. sym (after_none _ _ _ u 0))

pub relaxed-requires : goal.relaxed-requires
relaxed-requires c = back_step c.args.row {e = c.loop-arc.arc-index} {i = c.from-i.result} {j = c.from-j.result} c.requires.0 c.requires.1
    (record { from = grind (arith, common_steps); weight = grind (arith, common_steps); to = grind (arith, common_steps) }) (search rules) (search rules)

pub loop-arc-preserved : goal.loop-arc-preserved
loop-arc-preserved c = (
  search rules,
  row_more c.args.row c.loop-arc.out {i = c.from-i.result} {j = c.from-j.result} c.requires.0 c.loop-arc.invariant.0 c.loop-arc.invariant.1 c.relaxed.ensures
      (record { from = grind (arith, common_steps); weight = grind (arith, common_steps); to = grind (arith, common_steps) }) (search rules) (search rules) (search rules) (search rules),
)
