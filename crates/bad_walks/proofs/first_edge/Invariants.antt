use Rattle.net.specs.Net.{web_of}
use Rattle.laws.specs.Entry.{cell}
use Rattle.walks.specs.Opening.{Open}
use Rattle.bad_walks.proofs.first_edge.Given as goal

-- no edge so far closes a bad walk
abbrev pub invariant-loop-e : goal.invariant-loop-e
invariant-loop-e l = Open (web_of l.fn.net) (cell l.fn.w) l.e
