use Rattle.std.proofs.Common.{◌-◌}
use Rattle.table_script.specs.Script.{most_steps}
use Rattle.table_script.specs.Walk.{Turn}
use Rattle.table_script.proofs.line_at_fault.Given as goal

abbrev pub invariant-loop-p : goal.invariant-loop-p
invariant-loop-p l = Turn l.bytes l.p l.i

abbrev pub decreases-loop-p : goal.decreases-loop-p
decreases-loop-p l = most_steps - l.i
