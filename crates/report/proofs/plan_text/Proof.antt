-- `report::plan_text` meets its contract: the questions of the plan, then question 9.
-- From what `plan_at` and `put_interval` ensure.
use Rattle.interval_lines.specs.Small.{plan_small}
use Rattle.report.specs.PlanText.{PlanText, refused_by, refusal, made}
use Rattle.report.specs.declared.PlanWritten.{PlanWritten}
use mathlib.Core.Path.{◌≡◌, subst}
use mathlib.Core.List.{List}
use Prim.Native.Nat.{ℕ}
use Rattle.sheet.specs.declared.Sheet.{Sheet}
use Rattle.plan.specs.declared.PlanAnswer.{PlanAnswer}
use Rattle.plan.specs.Answers.{PlanAt}
use native.Mathlib.Omega.{arith}
use borrow.Author.Rules.{rules}
use Rattle.report.proofs.plan_text.Statement.{statement}
use Rattle.report.proofs.plan_text.Tie as tie

-- a refusal in other words
refused : {s : Sheet} {L : ℕ} {old : List ℕ} {r : PlanWritten} {a : PlanAnswer} → PlanAt s L a → (a.answer ≡ 0 → ⊥) → refused_by a ≡ r → PlanText s L old r old
refused {s} {L} {old} p n e = subst (λ (x : PlanWritten). PlanText s L old x old) e (refusal p n)

plan_at_requires : tie.Need-plan_at-a-requires
plan_at_requires c κs = search rules

put_interval_requires : tie.Need-put_interval-written-requires
put_interval_requires c κs = plan_small c.plan_at-a.ensures (omega arith)

same_length : tie.Need-shape_of-out
same_length c = search rules

returns_2 : tie.Need-returns
returns_2 c =
    let w = c.put_interval-written.ensures in
    let e = c in
    made e.plan_at-a.ensures (omega arith) w.0 w.1

pub plan_text_spec : {M : Type 1} → statement M
plan_text_spec =
    tie.close (tie.spec plan_at_requires (λ c. refused c.plan_at-a.ensures (λ z. omega arith) (search rules)) put_interval_requires same_length returns_2)
