-- The invariant: the table of the operations before i.
use Rattle.std.proofs.Common.{◌≡◌, List}
use Rattle.placing_table.specs.declared.Placement.{Placement}
use Rattle.placing_table.specs.declared.Table.{Table}
use Rattle.page.specs.Answers.{full_table}
use Rattle.page.proofs.full_table.Given as goal

abbrev table_of : List Placement → Table
table_of entries = record { entries = entries }

abbrev pub invariant-loop-i : goal.invariant-loop-i
invariant-loop-i l = table_of l.entries ≡ full_table l.i l.starts l.instances
