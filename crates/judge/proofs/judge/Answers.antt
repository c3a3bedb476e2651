use Rattle.std.proofs.Common.{ℕ, refl}
use Rattle.refusal.specs.Number.{no_zero}
use Rattle.sheet.specs.Questions.{at_yes, sheet_accepted, sheet_refuses}
use Rattle.judge.proofs.judge.Goals as goal

pub returns-in-Err : goal.returns-in-Err
returns-in-Err c = sheet_refuses (λ (n : ℕ). n) c.in-Err.ensures (no_zero _) c.number.ensures

pub text_examined-examined-requires : goal.text_examined-examined-requires
text_examined-examined-requires c = sheet_accepted c.in_default.ensures refl

pub returns : goal.returns
returns c = at_yes (sheet_accepted c.in_default.ensures refl) c.text_examined-examined.ensures.judged
