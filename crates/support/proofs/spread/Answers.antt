use Rattle.std.proofs.Common.{rules}
use Rattle.std.specs.Int.{w32}
use Rattle.laws.specs.Z.{kept, fits32}
use Rattle.task.specs.Plan.{lag_at}
use Rattle.support.specs.SupportLaws.{known, spread_keeps}
use Rattle.support.proofs.spread.Goals as goal
use Rattle.support.proofs.spread.Goals.{then-near-there, else-near-there}

pub loop-j-preserved : goal.loop-j-preserved
loop-j-preserved c =
    let i = c.args.i in
    let j = c.loop-j.j in
    let lag = c.args.lag.now in
    elim c.if-near-there.branch [
      | then-near-there w ↦ rw w.d-is (spread_keeps c.args.ops lag i j c.requires.1 c.loop-j-test.true
          (rw (kept {w = w32} {z = lag_at lag i j} (search (rules, fits32))) at w.shifted-after.ensures)
          (rw (kept {w = w32} {z = lag_at lag j i} (search (rules, fits32))) at w.shifted-before.ensures)
          (known c.least-least.ensures c.end_of-end.ensures c.next_starts_if-next.ensures) w.supported-row.ensures c.loop-j.invariant)
      | else-near-there w ↦ rw w.d-is c.loop-j.invariant
    ]
