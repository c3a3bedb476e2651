use Rattle.std.proofs.Common.{arith}
use Rattle.task.proofs.lags_from.Goals as goal

pub loop-j-init : goal.loop-j-init
loop-j-init c = λ k h. absurd (omega (arith, h))
