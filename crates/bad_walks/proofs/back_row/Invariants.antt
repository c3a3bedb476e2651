use Rattle.std.proofs.Common.{◌≡◌, length}
use Rattle.sizes.specs.Sizes.{most_operations}
use Rattle.net.specs.Net.{web_of}
use Rattle.walks.specs.Back.{AfterRow}
use Rattle.bad_walks.proofs.back_row.Given as goal

-- the row after the edges so far
abbrev pub invariant-loop-arc : goal.invariant-loop-arc
invariant-loop-arc l = (length l.out ≡ most_operations) × AfterRow (web_of l.fn.net) l.fn.row l.out l.arc-index
