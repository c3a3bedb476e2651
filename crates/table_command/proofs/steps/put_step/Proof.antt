-- `table_command::steps::put_step` meets its contract: the step is taken, and its lines are written.
-- From what `take_step` and `put_answer` ensure.
use mathlib.Core.Path.{refl}
use Rattle.table_command.specs.Small.{step_small}
use borrow.Author.Rules.{rules}
use Rattle.table_command.proofs.steps.put_step.Statement.{statement}
use Rattle.table_command.proofs.steps.put_step.Tie as tie

take_step_requires : tie.Need-take_step-done-requires
take_step_requires c κs = search rules

put_answer_requires : tie.Need-put_answer-place-requires
put_answer_requires c κs =
    let s = c in
    (step_small s.requires.0 c.take_step-done.ensures, s.requires.1)

same_length : tie.Need-shape_of-out
same_length c = search rules

returns : tie.Need-returns
returns c =
    let t = c.take_step-done in
    record { answer = t.result; answered = t.ensures; after = refl; pasted = c.put_answer-place.ensures }

pub put_step_spec : {M : Type 1} → statement M
put_step_spec = tie.close (tie.spec take_step_requires put_answer_requires same_length returns)
