use Rattle.std.proofs.Common.{ℕ, ◌<◌}
use Rattle.placing_table.specs.Table.{Taken}
use Rattle.placing_table.proofs.free.untaken.Given as goal

abbrev pub invariant-loop-j : goal.invariant-loop-j
invariant-loop-j l = (x : ℕ) → x < l.j → Taken l.sheet l.interval l.table l.op l.start l.instance x → ⊥
