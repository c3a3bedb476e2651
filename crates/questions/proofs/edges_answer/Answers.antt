use Rattle.std.proofs.Common.{◌≤◌, length, sym, refl, ◌∙◌, arith, rules}
use Rattle.std.proofs.lemmas.Grind.{common_steps}
use Rattle.dependence.specs.Graph.{no_edge}
use Rattle.sheet.specs.Answer.{edge_answer}
use Rattle.sheet.specs.AnswerLaws.{first_on}
use Rattle.sheet.specs.Facts.{accepted_most}
use Rattle.questions.specs.Lines.{first_of_items}
use Rattle.questions.proofs.edges_answer.Goals as goal

pub returns : goal.returns
returns c =
    let accepted = sym c.in_ok-number_answer.ensures in
    let bound : c.args.sheet.edge_count ≤ length c.args.sheet.edges = grind (arith, common_steps, accepted_most) in
    first_of_items c.args.sheet.edges c.args.sheet.edge_count no_edge (edge_answer c.args.sheet.op_count) bound (λ x r gives. search rules) c.first_refusal.ensures
    ∙ sym (first_on _ _ accepted refl)
