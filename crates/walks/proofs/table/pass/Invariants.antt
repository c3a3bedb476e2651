use Rattle.std.proofs.Common.{◌≡◌, length}
use Rattle.sizes.specs.Sizes.{most_operations}
use Rattle.net.specs.Net.{web_of}
use Rattle.walks.specs.Table.{After}
use Rattle.walks.proofs.table.pass.Given as goal

-- the table after the edges so far
abbrev pub invariant-loop-arc : goal.invariant-loop-arc
invariant-loop-arc l = (length l.out ≡ most_operations) × After (web_of l.fn.net) l.fn.b l.fn.w l.out l.arc-index
