use Rattle.std.proofs.Common.{rules}
use Rattle.domain.proofs.without_class.Goals as goal

pub returns : goal.returns
returns c =
    let k = c.kept.ensures in
    record { other = λ t h e b. search rules; gone = λ t h e b. search rules; was = k.was }
