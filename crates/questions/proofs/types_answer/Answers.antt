use Rattle.std.proofs.Common.{◌≤◌, length, sym, refl, ◌∙◌, arith, rules}
use Rattle.std.proofs.lemmas.Grind.{common_steps}
use Rattle.sheet.specs.Sheet.{no_type}
use Rattle.sheet.specs.Answer.{type_answer}
use Rattle.sheet.specs.AnswerLaws.{first_on}
use Rattle.sheet.specs.Facts.{accepted_most}
use Rattle.questions.specs.Lines.{first_of_items}
use Rattle.questions.proofs.types_answer.Goals as goal

pub returns : goal.returns
returns c =
    let accepted = sym c.in_ok-number_answer.ensures in
    let bound : c.args.sheet.type_count ≤ length c.args.sheet.types = grind (arith, common_steps, accepted_most) in
    first_of_items c.args.sheet.types c.args.sheet.type_count no_type (type_answer) bound (λ x r gives. search rules) c.first_refusal.ensures
    ∙ sym (first_on _ _ accepted refl)
