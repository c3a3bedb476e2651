-- The questions before a placing, then 13, by the laws of `Asking`.
use Rattle.std.proofs.Common.{refl, ap, ◌∙◌}
use Rattle.refusal.specs.Number.{no_zero}
use Rattle.sheet.specs.Questions.{at_no, at_yes}
use Rattle.placing.specs.Asking.{ready, refuses_placing, goes_on_placing}
use Rattle.placing.specs.Answers.{no_offer}
use Rattle.placing.proofs.make_offer.Goals as goal

pub returns-in-Err : goal.returns-in-Err
returns-in-Err c = refuses_placing no_offer c.in-Err.ensures (no_zero _) (c.refuse_offer.ensures ∙ ap no_offer c.number.ensures)

pub returns-in-None : goal.returns-in-None
returns-in-None c = goes_on_placing no_offer (ready c.in_default.ensures refl) (at_no c.in-None.ensures c.refuse_offer-in-None.ensures)

pub returns-in-Some : goal.returns-in-Some
returns-in-Some c =
    let l = c.in-Some.ensures in
    goes_on_placing no_offer (ready c.in_default.ensures refl) (at_yes (record { instance = _; free = l.free }) (record { instance = _; lowest = l; pinned = refl }))
