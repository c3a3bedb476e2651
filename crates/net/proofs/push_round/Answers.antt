use Rattle.std.proofs.Common.{rules, arith, subst}
use Rattle.std.proofs.lemmas.Grind.{common_steps}
use Rattle.net.specs.Net.{web_of}
use Rattle.net.specs.Starts.{Part}
use Rattle.net.specs.StartLaws.{part_addable, part_more}
use Rattle.net.proofs.push_round.Goals as goal

pub pushed-requires : goal.pushed-requires
pushed-requires c = part_addable c.requires.0 c.requires.1 c.loop-arc.invariant
    (record { from = grind (arith, common_steps); weight = grind (arith, common_steps); to = grind (arith, common_steps) }) (search rules)

pub loop-arc-preserved : goal.loop-arc-preserved
loop-arc-preserved c = part_more c.requires.0 c.loop-arc.invariant
    (record { from = grind (arith, common_steps); weight = grind (arith, common_steps); to = grind (arith, common_steps) }) (search rules) c.pushed.ensures

pub returns : goal.returns
returns c = subst (Part (web_of c.args.net) c.args.t c.loop-arc.out) (search rules) c.loop-arc.invariant
