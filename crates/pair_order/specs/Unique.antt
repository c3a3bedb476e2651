-- At most one answer fits an input.
-- Assumes nothing.
use Rattle.std.specs.Prelude.{◌≡◌, refl, ℕ}
use Rattle.std.proofs.Common.{sym, ap, subst, ◌∙◌, arith}
use Rattle.laws.specs.Entry.{zeros}
use Rattle.sheet.specs.declared.Sheet.{Sheet}
use Rattle.sheet.specs.Questions.{Asked, Is, One, is_one, asked_one}
use Rattle.plan.specs.declared.PlanAnswer.{PlanAnswer}
use Rattle.plan.specs.Rules.{Rivals}
use Rattle.plan.specs.AfterPlan.{after_plan_one}
use Rattle.pair_order.specs.PairLaws.{pair_unique}
use Rattle.pair_order.specs.Answers.{Order, same, first, second, refused, refused_by, Ordered, Paired, SlotOrderAt}

order_unique : {a b o o' : ℕ} → Order a b o → Order a b o' → o ≡ o'
order_unique (same _) (same _) = refl
order_unique (same e) (first l) = absurd (omega arith)
order_unique (same e) (second l) = absurd (omega arith)
order_unique (first l) (same e) = absurd (omega arith)
order_unique (first _) (first _) = refl
order_unique (first l) (second m) = absurd (omega arith)
order_unique (second l) (same e) = absurd (omega arith)
order_unique (second l) (first m) = absurd (omega arith)
order_unique (second _) (second _) = refl

ordered_one : {L i j : ℕ} {p : PlanAnswer} → One (Ordered L i j p)
ordered_one a b x y = x.pinned ∙ ap (λ (k : ℕ). record { answer = 0; order = k; loop_length = 0; loop_edges = zeros }) (order_unique x.ordered y.ordered) ∙ sym y.pinned

module _ {s : Sheet} {L pair : ℕ} where
  -- the pair number tells its operations
  paired_one : (p : PlanAnswer) → One (Paired s L pair p)
  paired_one p a b x y =
      let u = pair_unique y.formed x.formed in
      asked_one (is_one (refused 15)) ordered_one a b x.rivals
      (subst (λ (v : ℕ). Asked (Rivals s v x.j) (Is (refused 15)) (Ordered L v x.j p) b) u.0
      (subst (λ (v : ℕ). Asked (Rivals s y.i v) (Is (refused 15)) (Ordered L y.i v p) b) u.1 y.rivals))

  pub slot_order_unique : One (SlotOrderAt s L pair)
  slot_order_unique = after_plan_one refused_by (λ ok p. asked_one (is_one (refused 14)) (paired_one p))
