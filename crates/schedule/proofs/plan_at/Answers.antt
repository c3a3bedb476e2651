use Rattle.std.proofs.Common.{◌≡◌, refl, subst, ap, ◌∙◌, length, rules}
use Rattle.sizes.specs.Sizes.{most_operations}
use Rattle.dependence.specs.declared.Graph.{Graph}
use Rattle.dependence.specs.Answer.{WalkAnswer}
use Rattle.refusal.specs.Number.{no_zero}
use Rattle.sheet.specs.Questions.{at_yes, accepted, refuses, goes_on}
use Rattle.sheet.specs.Loop.{walk_five_at, walk_free}
use Rattle.plan.specs.Answers.{refused}
use Rattle.schedule.specs.Served.{FeasibleAt, below_bound}
use Rattle.schedule.proofs.plan_at.Goals as goal

pub returns-in-Err : goal.returns-in-Err
returns-in-Err c = refuses refused c.in-Err.ensures (no_zero _) (c.refusal.ensures ∙ ap refused c.number.ensures)

pub returns-then-walk-eq5 : goal.returns-then-walk-eq5
returns-then-walk-eq5 c =
    let y = accepted c.in_default.ensures refl in
    let r = c.bad_walk-walk.result in
    let edges : length r.loop_edges ≡ most_operations = search rules in
    let w = subst (λ (g : Graph). WalkAnswer g c.args.interval r.answer r.loop_length r.loop_edges) c.graph_of-graph.ensures c.bad_walk-walk.ensures in
    goes_on refused y (walk_five_at _ _ y.sheet y.interval w edges c.if-walk-eq5.true refl)

pub returns-then-interval-bound : goal.returns-then-interval-bound
returns-then-interval-bound c =
    let y = accepted c.in_default.ensures refl in
    let r = c.bad_walk-walk.result in
    let w = subst (λ (g : Graph). WalkAnswer g c.args.interval r.answer r.loop_length r.loop_edges) c.graph_of-graph.ensures c.bad_walk-walk.ensures in
    let free : FeasibleAt c.args.sheet c.args.interval = record { accepted = y; feasible = walk_free _ _ y.sheet y.interval w c.if-walk-eq5.false } in
    goes_on refused y (at_yes free.feasible (below_bound free c.resource_bound-bound.ensures c.if-interval-bound.true c.refusal-then-interval-bound.ensures))

pub first_plan-requires : goal.first_plan-requires
first_plan-requires c =
    let y = accepted c.in_default.ensures refl in
    let r = c.bad_walk-walk.result in
    let w = subst (λ (g : Graph). WalkAnswer g c.args.interval r.answer r.loop_length r.loop_edges) c.graph_of-graph.ensures c.bad_walk-walk.ensures in
    (record { accepted = y; feasible = walk_free _ _ y.sheet y.interval w c.if-walk-eq5.false }, c.graph_of-graph.ensures)

pub returns : goal.returns
returns c =
    let y = accepted c.in_default.ensures refl in
    let r = c.bad_walk-walk.result in
    let w = subst (λ (g : Graph). WalkAnswer g c.args.interval r.answer r.loop_length r.loop_edges) c.graph_of-graph.ensures c.bad_walk-walk.ensures in
    goes_on refused y (at_yes (walk_free _ _ y.sheet y.interval w c.if-walk-eq5.false) c.first_plan.ensures)
