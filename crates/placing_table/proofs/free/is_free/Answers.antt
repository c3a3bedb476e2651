use Rattle.std.proofs.Common.{rules}
use Rattle.placing_table.proofs.free.is_free.Goals as goal

pub returns-then-instance_allowed : goal.returns-then-instance_allowed
returns-then-instance_allowed c = search rules
