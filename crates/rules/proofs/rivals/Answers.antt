use Rattle.std.proofs.Common.{rules}
use Rattle.rules.proofs.rivals.Goals as goal

pub returns-then-resource_of : goal.returns-then-resource_of
returns-then-resource_of c = search rules
