use Rattle.std.proofs.Common.{rules}
use Rattle.domain.proofs.least.Goals as goal

pub returns : goal.returns
returns c = record { within = search rules; here = λ l. search rules; before = λ t l b. search rules }
