use Rattle.std.proofs.Common.{◌<◌, ◌-◌}
use Rattle.net.specs.Net.{web_of}
use Rattle.walks.specs.Table.{Is}
use Rattle.walks.specs.Opening.{None}
use Rattle.bad_walks.proofs.first_bad.Given as goal

-- the table of the walks of at most k edges; no bad closed walk has at most k edges
abbrev pub invariant-loop-e : goal.invariant-loop-e
invariant-loop-e l = (l.k < l.fn.net.ops) × Is (web_of l.fn.net) l.k l.w × None (web_of l.fn.net) l.k

-- there is a bad closed walk, and so one of at most as many edges as there are operations
abbrev pub decreases-loop-e : goal.decreases-loop-e
decreases-loop-e l = l.fn.net.ops - l.k
