-- At most one number judges an answer, and at most one line is at fault. Assumes nothing.
use Rattle.std.specs.Prelude.{ℕ, ◌+◌, refl, List}
use Rattle.std.proofs.Common.{ap}
use Rattle.sheet.specs.declared.Sheet.{Sheet}
use Rattle.sheet.specs.Questions.{One, is_one, asked_one, on_sheet_one}
use Rattle.plan_lines.specs.Lines.{first_at}
use Rattle.verify.specs.BrokenLaws.{broken_one, plan_unbroken}
use Rattle.denial.specs.FaultLaws.{tree_fault_one}
use Rattle.judge.specs.Text.{AnswerRead, plan, denial, unreadable, answer_of}
use Rattle.judge.specs.Answers.{Claimed, Judged, JudgedAt}
use Rattle.judge.specs.Fault.{PlanFault, none, broken, FaultIn, FaultAt}

module _ (s : Sheet) where
  claimed_one : {L : ℕ} {P : Type 0} → One (Claimed s L P)
  claimed_one = asked_one (is_one 4) (asked_one (is_one 19) (is_one 0))

  judged_one : (x : AnswerRead) → One (Judged s x)
  judged_one (plan L ts us) = claimed_one
  judged_one (denial L t) = claimed_one
  judged_one (unreadable l) = is_one 18

  pub judge_unique : (bs : List ℕ) → One (JudgedAt s bs)
  judge_unique bs = on_sheet_one (λ (n : ℕ). n) (judged_one (answer_of _ _ bs))

  plan_fault_one : {L : ℕ} {t u : ℕ → ℕ} → One (PlanFault s L t u)
  plan_fault_one a b (none p) (none q) = refl
  plan_fault_one a b (none p) (broken g) = absurd (plan_unbroken p g)
  plan_fault_one a b (broken f) (none q) = absurd (plan_unbroken q f)
  plan_fault_one a b (broken f) (broken g) = ap (λ (i : ℕ). first_at + i) (broken_one f g)

  fault_one : (x : AnswerRead) → One (FaultIn s x)
  fault_one (plan L ts us) = asked_one (is_one 2) plan_fault_one
  fault_one (denial L t) = asked_one (is_one 2) (λ a b p q. tree_fault_one p q)
  fault_one (unreadable l) = is_one l

  pub fault_unique : (bs : List ℕ) → One (FaultAt s bs)
  fault_unique bs = on_sheet_one (λ (n : ℕ). 0) (fault_one (answer_of _ _ bs))
