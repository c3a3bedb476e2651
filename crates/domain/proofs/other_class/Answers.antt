use Rattle.std.proofs.Common.{rules}
use Rattle.domain.proofs.other_class.Goals as goal

pub returns : goal.returns
returns c = record { yes = λ e. search rules; no = λ e t h b. search rules }
