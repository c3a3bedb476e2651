-- The line at fault of an answer that is not passed, counted from 1; 0 where it is passed, or the sheet is refused.
use Rattle.std.specs.Prelude.{ℕ, ◌+◌, List}
use Rattle.laws.specs.Entry.{vec}
use Rattle.sheet.specs.declared.Sheet.{Sheet}
use Rattle.sheet.specs.Sheet.{Interval}
use Rattle.sheet.specs.Questions.{Asked, Is, OnSheet}
use Rattle.plan.specs.Rules.{Plan}
use Rattle.plan_lines.specs.Lines.{first_at}
use Rattle.verify.specs.Broken.{FirstBroken}
use Rattle.denial.specs.At.{rules_at, root_at}
use Rattle.denial.specs.Fault.{TreeFault}
use Rattle.judge.specs.Text.{AnswerRead, plan, denial, unreadable, answer_of}

-- the line of the first operation that breaks a rule, by itself or with those before it
pub data PlanFault (s : Sheet) (L : ℕ) (t u : ℕ → ℕ) : ℕ → Type 0 where
  none : Plan s L t u → PlanFault s L t u 0
  broken : {i : ℕ} → FirstBroken s L t u i → PlanFault s L t u (first_at + i)

-- the line that names the interval
abbrev pub interval_line : ℕ
interval_line = 2

-- of what was read: where reading stopped; the interval's line; or the first line that is not so
abbrev pub FaultIn : Sheet → AnswerRead → ℕ → Type 0
FaultIn s (plan L ts us) = Asked (Interval s L) (Is interval_line) (PlanFault s L (vec ts) (vec us))
FaultIn s (denial L t) = Asked (Interval s L) (Is interval_line) (TreeFault (rules_at s L) (root_at s) t first_at)
FaultIn s (unreadable l) = Is l

-- of a text
abbrev pub FaultAt : Sheet → List ℕ → ℕ → Type 0
FaultAt s bs = OnSheet (λ (n : ℕ). 0) s (FaultIn s (answer_of s.op_count s.edge_count bs))
