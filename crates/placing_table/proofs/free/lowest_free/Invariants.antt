-- No instance below u is free.
use Rattle.placing_table.specs.Vacancies.{Passed}
use Rattle.placing_table.proofs.free.lowest_free.Given as goal

abbrev pub invariant-loop-u : goal.invariant-loop-u
invariant-loop-u l = Passed l.sheet l.interval l.table l.op l.start l.u
