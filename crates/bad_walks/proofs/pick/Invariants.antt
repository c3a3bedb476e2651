use Rattle.net.specs.Net.{web_of}
use Rattle.laws.specs.Entry.{at}
use Rattle.walks.specs.Trail.{Passed}
use Rattle.bad_walks.proofs.pick.Given as goal

-- no edge so far goes on
abbrev pub invariant-loop-e : goal.invariant-loop-e
invariant-loop-e l = Passed (web_of l.fn.net) (at l.fn.row) l.fn.s l.fn.u l.e
