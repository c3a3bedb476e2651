use Rattle.std.proofs.Common.{◌<◌, arith}
use Rattle.saturation_trims.specs.TrimLaws.{trimmed_next}
use Rattle.saturation_trims.proofs.trim.Goals as goal
use Rattle.saturation_trims.proofs.trim.Goals.{then-slots-b, else-slots-b}

-- a slot that is cut is less than bar after s
pub loop-w-preserved : goal.loop-w-preserved
loop-w-preserved c =
    let l = c.loop-w in
    elim c.if-slots-b.branch [
      | then-slots-b w ↦
          let near : l.w < c.args.bar = omega (arith, c.loop-w-test.true, c.min-w-end.ensures) in
          let inside : l.w < c.args.interval = omega (arith, c.loop-w-test.true, c.min-w-end.ensures) in
          rw w.row-is (trimmed_next c.args.bar c.args.s c.args.interval l.w c.requires.0 inside near c.slot_at-b.ensures.0 l.invariant w.without_slot.ensures)
      | else-slots-b w ↦ rw w.row-is l.invariant
    ]
