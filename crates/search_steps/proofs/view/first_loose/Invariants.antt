use Rattle.search_steps.specs.Steps.{OneEach}
use Rattle.search_steps.proofs.view.first_loose.Given as goal

abbrev pub invariant-loop-i : goal.invariant-loop-i
invariant-loop-i l = OneEach l.d l.x l.i
