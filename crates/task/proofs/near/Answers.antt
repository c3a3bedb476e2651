use Rattle.std.proofs.Common.{rules}
use Rattle.task.proofs.near.Goals as goal

pub returns-then-p-i : goal.returns-then-p-i
returns-then-p-i c = search rules
