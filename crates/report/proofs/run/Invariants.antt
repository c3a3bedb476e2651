-- The lines of the intervals passed are in the buffer, each at most as long as a refusal.
use Rattle.std.proofs.Common.{◌-◌, ◌*◌, ◌≤◌}
use Rattle.report.specs.Bounds.{refusal_most}
use Rattle.report.specs.Printing.{Printing}
use Rattle.report.proofs.run.Given as goal

abbrev pub invariant-loop-interval : goal.invariant-loop-interval
invariant-loop-interval l = record {
  short : l.at ≤ refusal_most * (l.interval - 1);
  lines : Printing l.fn.sheet l.fn.out l.out l.interval l.at;
}
