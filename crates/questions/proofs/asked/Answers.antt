use Rattle.std.proofs.Common.{ℕ, refl}
use Rattle.std.proofs.lemmas.Result.{err_from_is_err_and}
use Rattle.refusal.specs.Number.{no_zero}
use Rattle.sheet.specs.Questions.{at_no, at_yes, sheet_accepted, sheet_refuses}
use Rattle.questions.proofs.asked.Goals as goal

pub returns-in_err-answer : goal.returns-in_err-answer
returns-in_err-answer c =
    let p = err_from_is_err_and c.from_residual.result c.from_residual.ensures.1 in
    rw (p.1, p.2) (sheet_refuses (λ (n : ℕ). n) c.in_err-answer.ensures (no_zero _) refl)

pub returns-then-not-interval_in_range : goal.returns-then-not-interval_in_range
returns-then-not-interval_in_range c = at_yes (sheet_accepted c.in_ok-answer.ensures refl) (at_no (c.interval_in_range.ensures.no c.if-not-interval_in_range.true) refl)

pub returns : goal.returns
returns c = at_yes (sheet_accepted c.in_ok-answer.ensures refl) (at_yes (c.interval_in_range.ensures.yes c.if-not-interval_in_range.false) refl)
