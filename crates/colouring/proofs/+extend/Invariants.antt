use Rattle.colouring.specs.Parts.{Left}
use Rattle.colouring.specs.Laws.{bare}
use Rattle.colouring.proofs.+extend.Given as goal

-- the nodes without a colour
abbrev pub decreases-extend : goal.decreases-extend
decreases-extend l = bare l.q.count l.done.now

abbrev pub invariant-loop-colour : goal.invariant-loop-colour
invariant-loop-colour l = Left l.q.count l.q.edges.now l.q.limit l.done l.colours l.node l.colour
