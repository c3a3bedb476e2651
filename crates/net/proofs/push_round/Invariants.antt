use Rattle.net.specs.Net.{web_of}
use Rattle.net.specs.Starts.{Part}
use Rattle.net.proofs.push_round.Given as goal

-- the starts after the edges so far
abbrev pub invariant-loop-arc : goal.invariant-loop-arc
invariant-loop-arc l = Part (web_of l.fn.net) l.fn.t l.out l.arc-index
