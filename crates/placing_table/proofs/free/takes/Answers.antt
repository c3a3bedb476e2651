use Rattle.std.proofs.Common.{rules}
use Rattle.placing_table.proofs.free.takes.Goals as goal

pub returns-then-overlap : goal.returns-then-overlap
returns-then-overlap c = search rules
