use Rattle.std.proofs.Common.{arith, rules}
use Rattle.support.proofs.rows.supported_both.Goals as goal

-- the limit of start 0
pub loop-t-init : goal.loop-t-init
loop-t-init c = (search rules, omega (arith, c.requires.0), λ k h. record { was = λ e. e; stays = λ q n x a b y f g. y })
