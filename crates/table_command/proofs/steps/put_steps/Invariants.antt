-- The steps before the place reached are done, and their lines are written.
use Rattle.std.proofs.Common.{◌≡◌, ◌-◌, List, length}
use Rattle.table_script.specs.declared.Step.{Step}
use Rattle.table_script.specs.Script.{script_of, steps}
use Rattle.table_command.specs.Turns.{Turn}
use Rattle.table_command.proofs.steps.put_steps.Given as goal

abbrev pub invariant-loop-p : goal.invariant-loop-p
invariant-loop-p l = (all : List Step) × (script_of l.script ≡ steps all) × Turn l.sheet l.interval l.script all l.initial.out l.out l.table l.place l.p

abbrev pub decreases-loop-p : goal.decreases-loop-p
decreases-loop-p l = length l.script - l.p
