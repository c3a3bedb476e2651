use Rattle.std.proofs.Common.{arith}
use Rattle.colouring.proofs.clear.lowest_clear.Goals as goal

pub loop-v-init : goal.loop-v-init
loop-v-init c = λ x h. absurd (omega (arith, h))
