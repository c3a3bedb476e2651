use Rattle.colouring.specs.Parts.{Left}
use Rattle.colouring.proofs.least_at.Given as goal

abbrev pub invariant-loop-colour : goal.invariant-loop-colour
invariant-loop-colour l = Left l.q.count l.q.edges.now l.q.limit l.done l.colours l.node l.colour
