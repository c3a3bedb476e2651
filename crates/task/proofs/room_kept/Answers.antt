use Rattle.std.proofs.Common.{sym}
use Rattle.laws.specs.Entry.{vec}
use Rattle.laws.specs.Z.{true_false}
use Rattle.task.specs.PlanLaws.{room_over}
use Rattle.task.proofs.room_kept.Goals as goal

pub returns-then-overfull : goal.returns-then-overfull
returns-then-overfull c = record { yes = λ e. true_false (sym e); no = λ _. room_over c.args.p.now c.requires (vec c.args.starts.now) c.loop-i.i (c.overfull.ensures.yes c.if-overfull.true) }
