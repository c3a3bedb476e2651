use Rattle.std.proofs.Common.{rules}
use Rattle.domain.proofs.from_start.Goals as goal

pub returns : goal.returns
returns c =
    let k = c.kept.ensures in
    record { high = λ t h l b. search rules; low = λ t h l b. search rules; was = k.was }
