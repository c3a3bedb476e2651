use Rattle.std.proofs.Common.{rules, arith}
use Rattle.std.proofs.lemmas.Grind.{common_steps}
use Rattle.laws.specs.Entry.{cell}
use Rattle.net.specs.Net.{web_of}
use Rattle.walks.specs.Table.{loop_step}
use Rattle.walks.specs.Opening.{first_here, open_more}
use Rattle.bad_walks.proofs.first_edge.Goals as goal

pub closes-requires : goal.closes-requires
closes-requires c = loop_step c.args.w {e = c.loop-e.e} {i = c.from-j.result} {j = c.from-i.result} c.requires.0 c.requires.1
    (record { from = grind (arith, common_steps); weight = grind (arith, common_steps); to = grind (arith, common_steps) }) (search rules) (search rules)

pub returns-then-closes : goal.returns-then-closes
returns-then-closes c = first_here (cell c.args.w) {i = c.from-j.result} {j = c.from-i.result} c.loop-e.invariant c.closes.ensures c.if-closes.true
    (record { from = grind (arith, common_steps); weight = grind (arith, common_steps); to = grind (arith, common_steps) }) (search rules) (search rules)

pub loop-e-preserved : goal.loop-e-preserved
loop-e-preserved c = open_more {g = web_of c.args.net} (cell c.args.w) {e = c.loop-e.e} {i = c.from-j.result} {j = c.from-i.result} c.loop-e.invariant c.closes.ensures c.if-closes.false
    (record { from = grind (arith, common_steps); weight = grind (arith, common_steps); to = grind (arith, common_steps) }) (search rules)
