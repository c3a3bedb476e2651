use Rattle.std.proofs.Common.{rules}
use Rattle.domain.specs.Rows.{only_here}
use Rattle.domain.proofs.only.Goals as goal

pub returns : goal.returns
returns c = search (rules, only_here)
