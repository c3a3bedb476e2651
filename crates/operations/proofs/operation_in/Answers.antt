use Rattle.std.proofs.Common.{rules}
use Rattle.operations.proofs.operation_in.Goals as goal

pub returns : goal.returns
returns c = search rules
