-- What the plan writer answers, and what it leaves in the lent buffer old.
use Rattle.std.specs.Prelude.{ℕ, ◌≡◌, refl, List}
use Rattle.std.proofs.Common.{sym, ap, ◌∙◌}
use Rattle.laws.specs.Entry.{zeros}
use Rattle.text.specs.declared.Written.{Written}
use Rattle.text.specs.Text.{buffer_of}
use Rattle.text.specs.Line.{written_of}
use Rattle.sheet.specs.declared.Sheet.{Sheet}
use Rattle.plan.specs.declared.PlanAnswer.{PlanAnswer}
use Rattle.plan.specs.Answers.{PlanAt}
use Rattle.plan.specs.Unique.{plan_at_unique}
use Rattle.report.specs.declared.PlanWritten.{PlanWritten}
use Rattle.interval_lines.specs.IntervalLines.{plan_text}

-- the number of the plan's refusal and no bytes; for 5 with the edges
abbrev pub refused_by : PlanAnswer → PlanWritten
refused_by a = record { answer = a.answer; count = 0; loop_length = a.loop_length; loop_edges = a.loop_edges }

-- what question 9 answers of a text, and no edges
abbrev pub edgeless : Written → PlanWritten
edgeless w = record { answer = w.answer; count = w.count; loop_length = 0; loop_edges = zeros }

-- the refusal of the plan at that interval, and the buffer as it was; else the plan's text where the whole of it fits,
-- or 9
pub data PlanText (s : Sheet) (L : ℕ) (old : List ℕ) : PlanWritten → List ℕ → Type 0 where
  refusal : {a : PlanAnswer} → PlanAt s L a → (a.answer ≡ 0 → ⊥) → PlanText s L old (refused_by a) old
  text : {a : PlanAnswer} → PlanAt s L a → a.answer ≡ 0 → PlanText s L old (edgeless (written_of (plan_text s L a) old)) (buffer_of (plan_text s L a) old)

-- where there is a plan, by the answer and the buffer
pub made : {s : Sheet} {L : ℕ} {old new : List ℕ} {r : Written} {a : PlanAnswer} → PlanAt s L a → a.answer ≡ 0
    → r ≡ written_of (plan_text s L a) old → new ≡ buffer_of (plan_text s L a) old → PlanText s L old (edgeless r) new
made p z e f = rw (e, f) (text p z)

-- at most one answer and one buffer fit
pub once : {s : Sheet} {L : ℕ} {old : List ℕ} {r r' : PlanWritten} {new new' : List ℕ} → PlanText s L old r new → PlanText s L old r' new' → (r ≡ r') × (new ≡ new')
once (refusal p n) (refusal q m) = (ap refused_by (plan_at_unique _ _ p q), refl)
once (refusal p n) (text q m) = absurd (n (ap (λ (a : PlanAnswer). a.answer) (plan_at_unique _ _ p q) ∙ m))
once (text p n) (refusal q m) = absurd (m (sym (ap (λ (a : PlanAnswer). a.answer) (plan_at_unique _ _ p q)) ∙ n))
once {s} {L} {old} (text p n) (text q m) = (
  ap (λ (a : PlanAnswer). edgeless (written_of (plan_text s L a) old)) (plan_at_unique _ _ p q),
  ap (λ (a : PlanAnswer). buffer_of (plan_text s L a) old) (plan_at_unique _ _ p q),
)
