use Rattle.std.proofs.Common.{◌≡◌, eqb, arith}
use Rattle.std.specs.Int.{from_bool}
use Rattle.laws.specs.Entry.{vec}
use Rattle.task.specs.PlanLaws.{tally_next}
use Rattle.task.proofs.count_of.Goals as goal

pub loop-i-preserved : goal.loop-i-preserved
loop-i-preserved c =
    let l = c.loop-i in
    let one : c.from-c.result ≡ from_bool (eqb (vec c.args.resource.now l.i) c.args.kind) = c.from-c.ensures in
    grind (arith, tally_next, one)
