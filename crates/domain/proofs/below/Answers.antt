use Rattle.std.proofs.Common.{rules}
use Rattle.domain.proofs.below.Goals as goal

pub returns : goal.returns
returns c =
    let k = c.kept.ensures in
    record { low = λ t h l b. search rules; high = λ t h l b. search rules; was = k.was }
