use Rattle.std.proofs.Common.{rules}
use Rattle.operations.proofs.resource_of.Goals as goal

pub returns : goal.returns
returns c = search rules
