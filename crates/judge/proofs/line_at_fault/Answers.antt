use Rattle.std.proofs.Common.{ℕ, refl, sym, ◌∙◌}
use Rattle.refusal.specs.Number.{err_refuses, ok_passes}
use Rattle.sheet.specs.Questions.{at_yes, sheet_accepted, sheet_refuses}
use Rattle.judge.proofs.line_at_fault.Goals as goal

pub returns-then-is_err : goal.returns-then-is_err
returns-then-is_err c = sheet_refuses (λ (n : ℕ). 0) c.answer.ensures (err_refuses _ (sym c.is_err.ensures.value ∙ c.if-is_err.true)) refl

pub text_examined-examined-requires : goal.text_examined-examined-requires
text_examined-examined-requires c = sheet_accepted c.answer.ensures (ok_passes _ (sym c.is_err.ensures.value ∙ c.if-is_err.false))

pub returns : goal.returns
returns c = at_yes (sheet_accepted c.answer.ensures (ok_passes _ (sym c.is_err.ensures.value ∙ c.if-is_err.false))) c.text_examined-examined.ensures.fault
