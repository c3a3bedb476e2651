use Rattle.std.proofs.Common.{refl, arith}
use Rattle.model.proofs.allowed.allowed_domain.Goals as goal

-- no row yet
pub loop-i-init : goal.loop-i-init
loop-i-init c = (refl, λ k h. absurd (omega (arith, h)))

pub returns : goal.returns
returns c = record { row = λ i h. c.loop-i.invariant.1 i (omega (arith, h, c.loop-i.auto.i-end, c.loop-i-test.false)) }
