use Rattle.std.proofs.Common.{rules, below_more}
use Rattle.colouring.proofs.twins.same_column.Goals as goal

pub loop-k-preserved : goal.loop-k-preserved
loop-k-preserved c = below_more _ _ c.loop-k.invariant (λ d. search rules)
