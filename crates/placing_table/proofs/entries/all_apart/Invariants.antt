use Rattle.std.proofs.Common.{ℕ, ◌<◌}
use Rattle.placing_table.specs.Table.{Apart}
use Rattle.placing_table.proofs.entries.all_apart.Given as goal

abbrev pub invariant-loop-i : goal.invariant-loop-i
invariant-loop-i l = (x : ℕ) → x < l.i → Apart l.sheet l.interval l.table x
