use Rattle.std.proofs.Common.{rules}
use Rattle.domain.proofs.end_of.Goals as goal

pub returns : goal.returns
returns c = record { within = search rules; here = λ t e. search rules; after = λ t h l b. search rules }
