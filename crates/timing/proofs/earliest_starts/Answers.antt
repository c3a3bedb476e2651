use Rattle.std.proofs.Common.{◌≡◌, refl, subst, ap, ◌∙◌, length, rules}
use Rattle.sizes.specs.Sizes.{most_operations}
use Rattle.dependence.specs.declared.Graph.{Graph}
use Rattle.dependence.specs.Answer.{StartsAnswer}
use Rattle.refusal.specs.Number.{no_zero}
use Rattle.sheet.specs.Questions.{accepted, refuses}
use Rattle.timing.specs.Answers.{starts_refused}
use Rattle.timing.specs.Served.{starts_at}
use Rattle.timing.proofs.earliest_starts.Goals as goal

pub returns-in-Err : goal.returns-in-Err
returns-in-Err c = refuses starts_refused c.in-Err.ensures (no_zero _) (c.starts_refused.ensures ∙ ap starts_refused c.number.ensures)

pub returns : goal.returns
returns c =
    let s = c.args in
    let w = c.window_starts in
    let r = c.earliest.result in
    let starts : length r.starts ≡ most_operations = search rules in
    let edges : length r.loop_edges ≡ most_operations = search rules in
    starts_at s.sheet s.interval (accepted c.in_default.ensures refl) r w.result w.ensures starts edges
    (subst (λ (g : Graph). StartsAnswer g s.interval w.result r.answer r.starts r.loop_length r.loop_edges) c.graph_of.ensures c.earliest.ensures)
