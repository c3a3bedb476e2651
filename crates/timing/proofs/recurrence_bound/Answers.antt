use Rattle.std.proofs.Common.{refl, subst, ap}
use Rattle.dependence.specs.declared.Graph.{Graph}
use Rattle.dependence.specs.Answer.{BoundAnswer}
use Rattle.refusal.specs.Number.{no_zero}
use Rattle.sheet.specs.Questions.{at_yes, sheet_accepted, sheet_refuses}
use Rattle.timing.specs.Answers.{bound_refused}
use Rattle.timing.specs.Served.{recurrence_at}
use Rattle.timing.proofs.recurrence_bound.Goals as goal

pub returns-in-Err : goal.returns-in-Err
returns-in-Err c = sheet_refuses bound_refused c.in-Err.ensures (no_zero _) (ap bound_refused c.number.ensures)

pub returns : goal.returns
returns c =
    let s = c.args.sheet in
    let r = c.recurrence_bound.result in
    let ok = sheet_accepted c.in_default.ensures refl in
    at_yes ok (recurrence_at s ok r (subst (λ (g : Graph). BoundAnswer g s.cap r.answer r.value) c.graph_of.ensures c.recurrence_bound.ensures))
