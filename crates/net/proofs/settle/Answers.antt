use Rattle.std.proofs.Common.{rules, arith}
use Rattle.net.specs.StartLaws.{stands_none, stands_next, settled_starts, stuck_bad}
use Rattle.net.proofs.settle.Goals as goal

pub loop-round-init : goal.loop-round-init
loop-round-init c = record { stands = search (rules, stands_none); bad = λ h. absurd (omega arith) }

pub returns-then-all_met : goal.returns-then-all_met
returns-then-all_met c = settled_starts c.args.floor c.requires.0 c.loop-round.invariant.stands (search rules) c.all_met.ensures c.if-all_met.true

pub loop-round-preserved : goal.loop-round-preserved
loop-round-preserved c = record {
  stands = stands_next c.requires.0 _ _ _ _ c.loop-round.invariant.stands c.push_round-next.ensures;
  bad = stuck_bad c.args.floor c.requires.0 c.loop-round.invariant.stands c.all_met.ensures c.if-all_met.false;
}
