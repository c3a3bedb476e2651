use Rattle.std.proofs.Common.{◌∙◌, refl, sym, arith}
use Rattle.net.specs.Meets.{earliest_floor}
use Rattle.net.specs.SameWeb.{earliest_agree}
use Rattle.dependence.specs.Answer.{starts_five, starts_found}
use Rattle.dependence.specs.Bridge.{to_earliest}
use Rattle.dependence.specs.Step.{refusal}
use Rattle.constraints.proofs.starts.earliest.Goals as goal

pub returns-in-Some : goal.returns-in-Some
returns-in-Some c =
    let n = c.floor_ok.ensures.yes c.if-not-floor_ok.false in
    let v = c.interval_ok.ensures.yes c.if-not-interval_ok.false in
    let a = c.net_of-net.ensures in
    let k = c.cut-base.ensures in
    let s = c.in-Some.ensures in
    starts_found refl refl refl n.0 n.1 v
    (to_earliest _ _ _ _ (earliest_floor _ _ _ (λ i h. sym (k.front i (omega (arith, h)))) (earliest_agree a.1 _ _ s.earliest)))
    (λ i h l. s.past i (omega (arith, a.1.ops)) l ∙ k.back.rest i (omega (arith, h)))

pub returns : goal.returns
returns c =
    let n = c.floor_ok.ensures.yes c.if-not-floor_ok.false in
    let v = c.interval_ok.ensures.yes c.if-not-interval_ok.false in
    starts_five refl refl n.0 n.1 v (refusal _ _ c.net_of-net.ensures.1 c.first_bad-w.ensures)
