use Rattle.std.proofs.Common.{◌≡◌, length}
use Rattle.sizes.specs.Sizes.{most_operations}
use Rattle.net.specs.Net.{web_of}
use Rattle.walks.specs.Back.{Backs, Row}
use Rattle.bad_walks.proofs.backs.Given as goal

-- the rows so far, and the next one
abbrev pub invariant-loop-r : goal.invariant-loop-r
invariant-loop-r l = (length l.out ≡ most_operations) × Row (web_of l.fn.net) l.r l.fn.v l.row × Backs (web_of l.fn.net) l.fn.v l.r l.out
