-- They are a field of the operation's type.
use Rattle.std.proofs.Common.{ap}
use Rattle.sheet.specs.declared.ResourceType.{ResourceType}
use Rattle.operations.proofs.instances_of.Goals as goal

pub returns : goal.returns
returns c = ap (λ (t : ResourceType). t.instances) c.type_of.ensures
