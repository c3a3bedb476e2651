use Rattle.std.proofs.Common.{rules}
use Rattle.domain.proofs.only_class.Goals as goal

pub returns : goal.returns
returns c =
    let k = c.kept.ensures in
    record { in_class = λ t h e b. search rules; of_class = λ t h b. search rules; was = k.was }
