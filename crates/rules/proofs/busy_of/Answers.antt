use Rattle.std.proofs.Common.{rules}
use Rattle.rules.proofs.busy_of.Goals as goal

pub returns : goal.returns
returns c = search rules
