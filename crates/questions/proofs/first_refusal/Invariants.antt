use Rattle.std.proofs.Common.{◌≡◌, ℕ}
use Rattle.questions.specs.Lines.{Answered}
use Rattle.sheet.specs.Answer.{first_of}
use Rattle.questions.proofs.first_refusal.Given as goal

abbrev pub invariant-loop-line : goal.invariant-loop-line
invariant-loop-line g l = (f : ℕ → ℕ) → Answered (goal.F-post g l.answer) l.lines f → first_of l.line-index f ≡ 0
