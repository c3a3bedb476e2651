-- Services that ask for the plan at an interval first: its refusal is theirs, and with the plan given they go on.
-- Definitions, then laws. Assumes nothing.
use Rattle.std.specs.Prelude.{◌≡◌, ℕ}
use Rattle.std.proofs.Common.{sym, ap, subst, ◌∙◌, arith}
use Rattle.sheet.specs.declared.Sheet.{Sheet}
use Rattle.sheet.specs.Sheet.{InRange}
use Rattle.sheet.specs.AnswerLaws.{sheet_out}
use Rattle.sheet.specs.Questions.{Asked, at_no, at_yes, Is, AtInterval, One, is_one, asked_one, asked_one_if}
use Rattle.sheet.specs.Loop.{IfFeasible, loop_one}
use Rattle.plan.specs.declared.PlanAnswer.{PlanAnswer}
use Rattle.plan.specs.Answers.{refused, looped, HasPlan, Given, PlanAt}
use Rattle.plan.specs.Unique.{given_one}

-- the plan given, and what the service then says of it
pub record WithPlan {A : Type 0} (s : Sheet) (L : ℕ) (Then : PlanAnswer → A → Type 0) (a : A) : Type 0 where
  pub plan : PlanAnswer
  pub given : Given s L plan
  pub then : Then plan a

-- the sheet's questions and 4, 5 and 6, each refusal as the plan's answer `made` into one of the service, then the rest
-- with the plan given
abbrev pub AfterPlan : {A : Type 0} → (PlanAnswer → A) → Sheet → ℕ → (PlanAnswer → A → Type 0) → A → Type 0
AfterPlan made s L Then =
    AtInterval (λ n. made (refused n)) s L
    (IfFeasible (λ n es. made (looped n es)) s L
    (Asked (HasPlan s L) (Is (made (refused 6)))
    (WithPlan s L Then)))

module _ {A : Type 0} (made : PlanAnswer → A) {s : Sheet} {L : ℕ} {Then : PlanAnswer → A → Type 0} where
  with_plan_one : ((p : PlanAnswer) → One (Then p)) → One (WithPlan s L Then)
  with_plan_one f a b x y =
      let e : y.plan ≡ x.plan = given_one y.plan x.plan y.given x.given in
      f x.plan a b x.then (subst (λ (p : PlanAnswer). Then p b) e y.then)

  -- at most one answer fits
  pub after_plan_one : (InRange s → (p : PlanAnswer) → One (Then p)) → One (AfterPlan made s L Then)
  after_plan_one f =
      asked_one_if (is_one (made (refused _))) (λ ok.
      asked_one (is_one (made (refused 4))) (asked_one loop_one (asked_one (is_one (made (refused 6))) (with_plan_one (f ok)))))

  -- the plan's refusal is the service's
  pub plan_refused : {p : PlanAnswer} {a : A} → PlanAt s L p → (p.answer ≡ 0 → ⊥) → a ≡ made p → AfterPlan made s L Then a
  plan_refused (at_no n e) z q = at_no n (q ∙ ap made e)
  plan_refused (at_yes r (at_no n e)) z q = at_yes r (at_no n (q ∙ ap made e))
  plan_refused (at_yes r (at_yes i (at_no n x))) z q = at_yes r (at_yes i (at_no n (record {
    walk = x.walk;
    edges = x.edges;
    first = x.first;
    padded = x.padded;
    pinned = q ∙ ap made x.pinned;
  })))
  plan_refused (at_yes r (at_yes i (at_yes f (at_no n e)))) z q = at_yes r (at_yes i (at_yes f (at_no n (q ∙ ap made e))))
  plan_refused (at_yes r (at_yes i (at_yes f (at_yes h g)))) z q = absurd (z (ap (λ (x : PlanAnswer). x.answer) g.pinned))

  -- with the plan given the service goes on
  pub plan_given : {p : PlanAnswer} {a : A} → PlanAt s L p → p.answer ≡ 0 → Then p a → AfterPlan made s L Then a
  plan_given (at_no n e) z t = absurd (sheet_out s n (sym (ap (λ (x : PlanAnswer). x.answer) e) ∙ z))
  plan_given (at_yes _ (at_no _ e)) z t = absurd (omega (arith, z, ap (λ (x : PlanAnswer). x.answer) e))
  plan_given (at_yes _ (at_yes _ (at_no _ x))) z t = absurd (omega (arith, z, ap (λ (x : PlanAnswer). x.answer) x.pinned))
  plan_given (at_yes _ (at_yes _ (at_yes _ (at_no _ e)))) z t = absurd (omega (arith, z, ap (λ (x : PlanAnswer). x.answer) e))
  plan_given {p} (at_yes r (at_yes i (at_yes f (at_yes h g)))) z t = at_yes r (at_yes i (at_yes f (at_yes h (record { plan = p; given = g; then = t }))))
