use Rattle.std.proofs.Common.{refl, sym, subst, ◌∙◌}
use Rattle.dependence.specs.declared.Graph.{Graph}
use Rattle.dependence.specs.Answer.{TableAnswer, Separations}
use Rattle.refusal.specs.Number.{err_refuses, ok_passes}
use Rattle.sheet.specs.Questions.{accepted, refuses}
use Rattle.timing.specs.Answers.{table_refused}
use Rattle.timing.specs.Served.{separations_at}
use Rattle.timing.proofs.separations.Goals as goal

pub returns-then-is_err : goal.returns-then-is_err
returns-then-is_err c = refuses table_refused c.asked.ensures (err_refuses _ (sym c.is_err.ensures.value ∙ c.if-is_err.true)) refl

pub returns : goal.returns
returns c =
    let s = c.args in
    separations_at s.sheet s.interval (accepted c.asked.ensures (ok_passes _ (sym c.is_err.ensures.value ∙ c.if-is_err.false)))
    (subst (λ (g : Graph). TableAnswer g s.interval (Separations g s.interval) c.separations.result) c.graph_of.ensures c.separations.ensures)
