use Rattle.std.proofs.Common.{arith}
use Rattle.task.proofs.seated.Goals as goal

pub loop-kind-init : goal.loop-kind-init
loop-kind-init c = λ m h. absurd (omega (arith, h))
