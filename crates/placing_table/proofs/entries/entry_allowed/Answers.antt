use Rattle.std.proofs.Common.{rules}
use Rattle.placing_table.proofs.entries.entry_allowed.Goals as goal

pub returns-then-holds_allowed : goal.returns-then-holds_allowed
returns-then-holds_allowed c = search rules
