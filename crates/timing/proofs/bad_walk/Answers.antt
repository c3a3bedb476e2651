use Rattle.std.proofs.Common.{◌≡◌, refl, subst, ap, ◌∙◌, length, rules}
use Rattle.sizes.specs.Sizes.{most_operations}
use Rattle.dependence.specs.declared.Graph.{Graph}
use Rattle.dependence.specs.Answer.{WalkAnswer}
use Rattle.refusal.specs.Number.{no_zero}
use Rattle.sheet.specs.Questions.{accepted, refuses}
use Rattle.timing.specs.Answers.{without_loop}
use Rattle.timing.specs.Served.{walk_at}
use Rattle.timing.proofs.bad_walk.Goals as goal

pub returns-in-Err : goal.returns-in-Err
returns-in-Err c = refuses without_loop c.in-Err.ensures (no_zero _) (c.without_loop.ensures ∙ ap without_loop c.number.ensures)

pub returns : goal.returns
returns c =
    let s = c.args in
    let r = c.bad_walk.result in
    let edges : length r.loop_edges ≡ most_operations = search rules in
    walk_at s.sheet s.interval (accepted c.in_default.ensures refl) r edges
    (subst (λ (g : Graph). WalkAnswer g s.interval r.answer r.loop_length r.loop_edges) c.graph_of.ensures c.bad_walk.ensures)
