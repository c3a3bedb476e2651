-- The check of a plan that somebody hands in: what it answers.
use Rattle.std.specs.Prelude.{◌≡◌, false, ℕ}
use Rattle.laws.specs.Says.{Says}
use Rattle.sheet.specs.declared.Sheet.{Sheet}
use Rattle.sheet.specs.Questions.{AtInterval}
use Rattle.plan.specs.Rules.{Plan}
use Rattle.verify.specs.declared.Checked.{Checked}

-- the number of a refusal, and no yes beside it
abbrev pub check_refused : ℕ → Checked
check_refused n = record { answer = n; plan = false }

-- the answer 0: a yes exactly when the starts t and the instances u are a plan
pub record Decided (s : Sheet) (L : ℕ) (t u : ℕ → ℕ) (a : Checked) : Type 0 where
  pub number : a.answer ≡ 0
  pub says : Says (Plan s L t u) a.plan

-- the questions about the sheet and 4, then whether it is a plan
abbrev pub CheckedAt : Sheet → ℕ → (ℕ → ℕ) → (ℕ → ℕ) → Checked → Type 0
CheckedAt s L t u = AtInterval check_refused s L (Decided s L t u)
