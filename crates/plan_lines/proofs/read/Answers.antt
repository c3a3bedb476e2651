-- The lines `at=` are read only of a plan whose answer is 0.
use Rattle.std.proofs.Common.{◌≡◌, arith}
use Rattle.std.proofs.lemmas.Grind.{common_steps}
use Rattle.plan_lines.specs.Steps.{places}
use Rattle.plan_lines.proofs.read.Goals as goal

pub returns-clause-result_value : goal.returns-clause-result_value
returns-clause-result_value c =
    let is_plan : c.in_ok-answer.answer.first ≡ 0 = omega arith in
    grind (arith, common_steps, places)
