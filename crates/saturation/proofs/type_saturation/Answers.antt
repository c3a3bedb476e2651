use Rattle.domain.specs.Empty.{keeps_none}
use Rattle.task.specs.Plan.{PlanOf}
use Rattle.saturation_trims.specs.TrimLaws.{bars_none, bars_keep}
use Rattle.saturation.proofs.type_saturation.Goals as goal
use Rattle.saturation.proofs.type_saturation.Goals.{else-used-s-via-then-used-s+else-slot_saturation, else-used-s-via-else-used-s}

pub returns-then-slot_saturation : goal.returns-then-slot_saturation
returns-then-slot_saturation c =
    let q = c.requires in
    keeps_none (PlanOf c.args.p.now) _ q.0.ops_ok
    (bars_none c.args.p.now q.0 c.args.kind c.loop-s.s q.1 q.2 q.3 c.used_slots-used.ensures (c.loop-s.invariant.0 c.loop-s-test.true) (c.slot_saturation.ensures.fails c.if-slot_saturation.true))

pub loop-s-preserved : goal.loop-s-preserved
loop-s-preserved c =
    let q = c.requires in (
      c.stepped-reach.ensures,
      elim c.else-used-s.branch [
        | else-used-s-via-then-used-s+else-slot_saturation w ↦
            let k = w.slot_saturation.ensures.cuts w.if-slot_saturation.false in
            rw w.d-is (bars_keep c.args.p.now q.0 c.args.kind c.loop-s.s q.1 q.2 q.3 c.used_slots-used.ensures (c.loop-s.invariant.0 c.loop-s-test.true) k.1 c.loop-s.invariant.1 k.2)
        | else-used-s-via-else-used-s w ↦ rw w.d-is c.loop-s.invariant.1
      ],
    )
