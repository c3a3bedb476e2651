use Rattle.std.proofs.Common.{rules, arith, sym}
use Rattle.std.proofs.lemmas.Grind.{common_steps}
use Rattle.walks.specs.Table.{after_none, after_more, row_step}
use Rattle.walks.proofs.table.pass.Goals as goal

pub relaxed_row-requires : goal.relaxed_row-requires
relaxed_row-requires c = row_step c.args.w {e = c.loop-arc.arc-index} {i = c.from-i.result} c.requires.0 c.requires.1
    (record { from = grind (arith, common_steps); weight = grind (arith, common_steps); to = grind (arith, common_steps) }) (search rules)

pub loop-arc-init : goal.loop-arc-init
loop-arc-init c = (search rules, λ u v hu hv. sym (after_none _ _ _ u v))

pub loop-arc-preserved : goal.loop-arc-preserved
loop-arc-preserved c = (
  search rules,
  after_more c.args.b c.args.w c.loop-arc.out c.relaxed_row.result c.requires.0 c.loop-arc.invariant.0 c.loop-arc.invariant.1
      (record { from = grind (arith, common_steps); weight = grind (arith, common_steps); to = grind (arith, common_steps) }) (search rules) c.relaxed_row.ensures,
)
