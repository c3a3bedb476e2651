-- The judgement of another supplier's answer: the questions about the sheet, then 18 for the text, 4 for the interval
-- that it names, and 19 for what it says.
use Rattle.std.specs.Prelude.{ℕ, List}
use Rattle.laws.specs.Entry.{vec}
use Rattle.sheet.specs.declared.Sheet.{Sheet}
use Rattle.sheet.specs.Sheet.{Interval}
use Rattle.sheet.specs.Questions.{Asked, Is, OnSheet}
use Rattle.plan.specs.Rules.{Plan}
use Rattle.denial.specs.Passes.{Passes}
use Rattle.denial.specs.At.{rules_at, root_at}
use Rattle.judge.specs.Text.{AnswerRead, plan, denial, unreadable, answer_of}

-- question 4, then whether P holds, else 19
abbrev pub Claimed : Sheet → ℕ → Type 0 → ℕ → Type 0
Claimed s L P = Asked (Interval s L) (Is 4) (Asked P (Is 19) (Is 0))

-- of what was read: a plan keeps every rule, the tree of a denial passes
abbrev pub Judged : Sheet → AnswerRead → ℕ → Type 0
Judged s (plan L ts us) = Claimed s L (Plan s L (vec ts) (vec us))
Judged s (denial L t) = Claimed s L (Passes (rules_at s L) (root_at s) t)
Judged s (unreadable l) = Is 18

-- of a text
abbrev pub JudgedAt : Sheet → List ℕ → ℕ → Type 0
JudgedAt s bs = OnSheet (λ (n : ℕ). n) s (Judged s (answer_of s.op_count s.edge_count bs))
