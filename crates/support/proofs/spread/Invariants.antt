use Rattle.domain.specs.Domain.{Keeps}
use Rattle.task.specs.Plan.{LagsKept}
use Rattle.support.proofs.spread.Given as goal

abbrev pub invariant-loop-j : goal.invariant-loop-j
invariant-loop-j l = Keeps (LagsKept l.ops l.lag) l.ops l.fn.d l.d
