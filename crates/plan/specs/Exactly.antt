-- Demand 3 in one place: for a sheet in range and an interval, what the plan at that interval answers, in both
-- directions; and what an answer 0, or another, tells of the input. Assumes nothing.
use Rattle.std.specs.Prelude.{◌≡◌, ◌⊎◌, ℕ, ℤ, pos}
use Rattle.std.proofs.Common.{sym, ap, subst, ◌∙◌, inl, inr, arith}
use Rattle.laws.specs.Entry.{vec}
use Rattle.dependence.specs.Rules.{Meets}
use Rattle.sheet.specs.declared.Sheet.{Sheet}
use Rattle.sheet.specs.Sheet.{InRange, Interval, graph_of}
use Rattle.sheet.specs.AnswerLaws.{sheet_out}
use Rattle.sheet.specs.Questions.{at_no, at_yes, Accepted}
use Rattle.sheet.specs.Loop.{sheet_exactly}
use Rattle.plan.specs.declared.PlanAnswer.{PlanAnswer}
use Rattle.plan.specs.Answers.{HasPlan, First, Given, PlanAt}

-- 0 exactly when there is a plan, and then the first; 5 exactly when no whole-number starts keep the dependences; else
-- 6
pub record Decides (s : Sheet) (L : ℕ) (r : PlanAnswer) : Type 0 where
  pub number : (r.answer ≡ 0) ⊎ ((r.answer ≡ 5) ⊎ (r.answer ≡ 6))
  pub plan : r.answer ≡ 0 → First s L (vec r.starts) (vec r.instances)
  pub none : (r.answer ≡ 0 → ⊥) → HasPlan s L → ⊥
  pub no_starts : r.answer ≡ 5 → (t : ℕ → ℤ) → Meets (graph_of s) L t → ⊥
  pub some_starts : (r.answer ≡ 5 → ⊥) → (t : ℕ → ℤ) × Meets (graph_of s) L t

answered : {r r' : PlanAnswer} → r ≡ r' → r.answer ≡ r'.answer
answered e = ap (λ (x : PlanAnswer). x.answer) e

module _ {s : Sheet} {L : ℕ} {r : PlanAnswer} where
  -- the first plan is the one in the answer
  pub given_first : Given s L r → First s L (vec r.starts) (vec r.instances)
  given_first g = subst (λ (x : PlanAnswer). First s L (vec x.starts) (vec x.instances)) (sym g.pinned) g.first

  pub decides : InRange s → Interval s L → PlanAt s L r → Decides s L r
  decides ok iv (at_no n _) = absurd (n ok)
  decides ok iv (at_yes _ (at_no n _)) = absurd (n iv)
  decides ok iv (at_yes _ (at_yes _ (at_no n p))) =
      let five : r.answer ≡ 5 = answered p.pinned in
      let none = (sheet_exactly ok iv).no_starts p.walk p.first.bad in
      record {
        number = inr (inl five);
        plan = λ e. absurd (omega (arith, e, five));
        none = λ _ h. none (λ i. pos (h.starts i)) h.plan.dependence;
        no_starts = λ _. none;
        some_starts = λ h. absurd (h five);
      }
  decides ok iv (at_yes _ (at_yes _ (at_yes f (at_no n p)))) =
      let six : r.answer ≡ 6 = answered p in
      record {
        number = inr (inr six);
        plan = λ e. absurd (omega (arith, e, six));
        none = λ _ h. n h;
        no_starts = λ e. absurd (omega (arith, e, six));
        some_starts = λ _. (sheet_exactly ok iv).some_starts f;
      }
  decides ok iv (at_yes _ (at_yes _ (at_yes f (at_yes h g)))) =
      let zero : r.answer ≡ 0 = answered g.pinned in
      record {
        number = inl zero;
        plan = λ _. given_first g;
        none = λ n _. n zero;
        no_starts = λ e. absurd (omega (arith, e, zero));
        some_starts = λ _. ((λ i. pos (h.starts i)), h.plan.dependence);
      }

  -- the answer 0 is that of an accepted sheet and interval, and a plan is given
  pub accepted_given : PlanAt s L r → r.answer ≡ 0 → Accepted s L × Given s L r
  accepted_given (at_no n p) z = absurd (sheet_out s n (sym (answered p) ∙ z))
  accepted_given (at_yes _ (at_no _ p)) z = absurd (omega (arith, z, answered p))
  accepted_given (at_yes _ (at_yes _ (at_no _ p))) z = absurd (omega (arith, z, answered p.pinned))
  accepted_given (at_yes _ (at_yes _ (at_yes _ (at_no _ p)))) z = absurd (omega (arith, z, answered p))
  accepted_given (at_yes ok (at_yes iv (at_yes _ (at_yes _ g)))) z = (record { sheet = ok; interval = iv }, g)
