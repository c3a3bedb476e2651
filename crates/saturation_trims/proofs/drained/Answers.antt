use Rattle.saturation_trims.specs.TrimLaws.{drained_next}
use Rattle.saturation_trims.proofs.drained.Goals as goal
use Rattle.saturation_trims.proofs.drained.Goals.{then-case-i, else-case-i}

pub loop-i-preserved : goal.loop-i-preserved
loop-i-preserved c = let l = c.loop-i in
    elim c.if-case-i.branch [
      | then-case-i w ↦ rw w.d-is (drained_next _ l.i c.loop-i-test.true w.if-case-i.true l.invariant w.trim-cut.ensures)
      | else-case-i w ↦ rw w.d-is l.invariant
    ]
