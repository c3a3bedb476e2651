-- The numbers of the services' answers about a sheet in range, as far as they are printed, are numbers that a line can
-- have. Assumes nothing.
use Rattle.std.specs.Prelude.{◌≡◌, refl, List, ℕ, ◌≤◌}
use Rattle.std.proofs.Common.{sym, ap, subst, ◌∙◌, arith}
use Rattle.text.specs.Sizes.{greatest_number, three_digits}
use Rattle.constraints.specs.declared.bound.Bound as recurrence
use Rattle.constraints.specs.declared.loops.BadWalk as loops
use Rattle.constraints.specs.declared.starts.Starts as earliest
use Rattle.sheet.specs.declared.Sheet.{Sheet}
use Rattle.sheet.specs.Sheet.{InRange}
use Rattle.sheet.specs.Questions.{Asked, at_no, at_yes, Is, AtInterval, AskedAt, Accepted}
use Rattle.sheet.specs.Loop.{IfFeasible}
use Rattle.timing.specs.Answers.{without_loop, with_loop, starts_refused, starts_loop, WalkAt, StartsAt, RecurrenceAt}
use Rattle.plan.specs.declared.resource.Bound as resource
use Rattle.plan.specs.declared.PlanAnswer.{PlanAnswer}
use Rattle.plan.specs.Answers as plan
use Rattle.plan.specs.AfterPlan.{WithPlan}
use Rattle.plan.specs.Rules.{Rivals}
use Rattle.plan.specs.Resource.{ResourceAt}
use Rattle.plan.specs.ResourceLaws.{bound_small}
use Rattle.pair_order.specs.declared.SlotOrder.{SlotOrder}
use Rattle.pair_order.specs.Answers.{Order, same, first, second, refused, refused_by, Ordered, InPlan, SlotOrderAt}
use Rattle.interval_lines.specs.Small.{interval_small, loop_edges_small}
use Rattle.command_lines.specs.Shows.{Printable, Sized}

abbrev number : SlotOrder → ℕ
number a = a.answer

abbrev order : SlotOrder → ℕ
order a = a.order

module _ {s : Sheet} (ok : InRange s) where
  -- an answer after the sheet's questions, 4 and 5, of which the number and the edges are printed
  module _ {A : Type 0} (answer : A → ℕ) (edges : A → List ℕ) (refused : ℕ → A) (looped : ℕ → List ℕ → A)
      (refused-answer : answer (refused 4) ≡ 4) (looped-answer : (n : ℕ) (es : List ℕ) → answer (looped n es) ≡ 5) (looped-edges : (n : ℕ) (es : List ℕ) → edges (looped n es) ≡ es)
      {L : ℕ} {Then : A → Type 0} where
    sized : ((a : A) → Then a → (answer a ≤ three_digits) × (answer a ≡ 5 → ⊥)) → {a : A} → AtInterval refused s L (IfFeasible looped s L Then) a → Sized (answer a) L (edges a)
    sized then (at_no n _) = absurd (n ok)
    sized then (at_yes _ (at_no _ e)) =
        let q = ap answer e ∙ refused-answer in
        record { few = omega arith; interval = λ z. absurd (omega arith); edges = λ z. absurd (omega arith) }
    sized then (at_yes _ (at_yes v (at_no _ p))) =
        let q = ap answer p.pinned ∙ looped-answer _ _ in
        let w = ap edges p.pinned ∙ looped-edges _ _ in
        record { few = omega arith; interval = λ _. let h = interval_small ok v in omega arith; edges = λ _. subst Printable (sym w) (λ i. let h = loop_edges_small ok p i in omega arith) }
    sized then {a} (at_yes _ (at_yes v (at_yes _ t))) =
        let h = then a t in
        let b = h.0 in
        record { few = omega arith; interval = λ z. absurd (h.1 z); edges = λ z. absurd (h.1 z) }

    -- with 0 the interval is one
    inside : {a : A} → AtInterval refused s L (IfFeasible looped s L Then) a → answer a ≡ 0 → L ≤ greatest_number
    inside (at_no n _) z = absurd (n ok)
    inside (at_yes _ (at_no _ e)) z = absurd (omega (arith, z, ap answer e, refused-answer))
    inside (at_yes _ (at_yes v _)) z = let h = interval_small ok v in omega arith

  module _ {L : ℕ} where
    pub starts_sized : {a : earliest.Starts} → StartsAt s L a → Sized a.answer L a.loop_edges
    starts_sized = sized (λ (a : earliest.Starts). a.answer) (λ (a : earliest.Starts). a.loop_edges) starts_refused starts_loop refl (λ _ _. refl) (λ _ _. refl)
        (λ a x. let e = ap (λ (a : earliest.Starts). a.answer) x.pinned in (omega arith, λ z. omega arith))

    pub starts_inside : {a : earliest.Starts} → StartsAt s L a → a.answer ≡ 0 → L ≤ greatest_number
    starts_inside = inside (λ (a : earliest.Starts). a.answer) (λ (a : earliest.Starts). a.loop_edges) starts_refused starts_loop refl (λ _ _. refl) (λ _ _. refl)

    pub walk_sized : {w : loops.BadWalk} → WalkAt s L w → Sized w.answer L w.loop_edges
    walk_sized = sized (λ (a : loops.BadWalk). a.answer) (λ (a : loops.BadWalk). a.loop_edges) without_loop with_loop refl (λ _ _. refl) (λ _ _. refl)
        (λ a x. let e = ap (λ (a : loops.BadWalk). a.answer) x in (omega arith, λ z. omega arith))

    pub walk_inside : {w : loops.BadWalk} → WalkAt s L w → w.answer ≡ 0 → L ≤ greatest_number
    walk_inside = inside (λ (a : loops.BadWalk). a.answer) (λ (a : loops.BadWalk). a.loop_edges) without_loop with_loop refl (λ _ _. refl) (λ _ _. refl)

    pub plan_sized : {a : PlanAnswer} → plan.PlanAt s L a → Sized a.answer L a.loop_edges
    plan_sized = sized (λ (a : PlanAnswer). a.answer) (λ (a : PlanAnswer). a.loop_edges) plan.refused plan.looped refl (λ _ _. refl) (λ _ _. refl) others
      where
        others : (a : PlanAnswer) → plan.IfPlan s L a → (a.answer ≤ three_digits) × (a.answer ≡ 5 → ⊥)
        others a (at_no _ p) = let e = ap (λ (a : PlanAnswer). a.answer) p in (omega arith, λ z. omega arith)
        others a (at_yes _ g) = let e = ap (λ (a : PlanAnswer). a.answer) g.pinned in (omega arith, λ z. omega arith)

  -- ---- question 4

  pub asked_four : {L n : ℕ} → AskedAt s L n → (n ≡ 0 → ⊥) → n ≡ 4
  asked_four (at_no x _) z = absurd (x ok)
  asked_four (at_yes _ (at_no _ e)) z = e
  asked_four (at_yes _ (at_yes _ e)) z = absurd (z e)

  -- ---- the slot order

  module _ {L pair : ℕ} where
    other_answers : (a : SlotOrder) → Asked (plan.HasPlan s L) (Is (refused_by (plan.refused 6))) (WithPlan s L (InPlan s L pair)) a → (a.answer ≤ three_digits) × (a.answer ≡ 5 → ⊥)
    other_answers a (at_no _ e) = let q = ap number e in (omega arith, λ z. omega arith)
    other_answers a (at_yes _ w) = in_plan w.then
      where
        rivals : {i j : ℕ} → Asked (Rivals s i j) (Is (refused 15)) (Ordered L i j w.plan) a → (a.answer ≤ three_digits) × (a.answer ≡ 5 → ⊥)
        rivals (at_no _ e) = let q = ap number e in (omega arith, λ z. omega arith)
        rivals (at_yes _ o) = let q = ap number o.pinned in (omega arith, λ z. omega arith)

        in_plan : InPlan s L pair w.plan a → (a.answer ≤ three_digits) × (a.answer ≡ 5 → ⊥)
        in_plan (at_no _ e) = let q = ap number e in (omega arith, λ z. omega arith)
        in_plan (at_yes _ p) = rivals p.rivals

    pub order_sized : {a : SlotOrder} → SlotOrderAt s L pair a → Sized a.answer L a.loop_edges
    order_sized = sized number (λ (a : SlotOrder). a.loop_edges) (λ n. refused_by (plan.refused n)) (λ n es. refused_by (plan.looped n es)) refl (λ _ _. refl) (λ _ _. refl) other_answers

    -- the order is 0, 1 or 2
    pub order_few : {a : SlotOrder} → SlotOrderAt s L pair a → a.order ≤ greatest_number
    order_few (at_no _ e) = let q = ap order e in omega arith
    order_few (at_yes _ (at_no _ e)) = let q = ap order e in omega arith
    order_few (at_yes _ (at_yes _ (at_no _ p))) = let q = ap order p.pinned in omega arith
    order_few (at_yes _ (at_yes _ (at_yes _ (at_no _ e)))) = let q = ap order e in omega arith
    order_few {a} (at_yes _ (at_yes _ (at_yes _ (at_yes _ w)))) = in_plan w.then
      where
        least : {x y o : ℕ} → Order x y o → o ≤ 2
        least (same _) = omega arith
        least (first _) = omega arith
        least (second _) = omega arith

        rivals : {i j : ℕ} → Asked (Rivals s i j) (Is (refused 15)) (Ordered L i j w.plan) a → a.order ≤ greatest_number
        rivals (at_no _ e) = let q = ap order e in omega arith
        rivals (at_yes _ o) = let q = ap order o.pinned in let h = least o.ordered in omega arith

        in_plan : InPlan s L pair w.plan a → a.order ≤ greatest_number
        in_plan (at_no _ e) = let q = ap order e in omega arith
        in_plan (at_yes _ p) = rivals p.rivals

  -- ---- the bounds

  pub recurrence_few : {b : recurrence.Bound} → RecurrenceAt s b → (b.answer ≤ greatest_number) × (b.value ≤ greatest_number)
  recurrence_few (at_no n _) = absurd (n ok)
  recurrence_few (at_yes _ (at_no _ e)) =
      let a = ap (λ (b : recurrence.Bound). b.answer) e in
      let v = ap (λ (b : recurrence.Bound). b.value) e in
      (omega arith, omega arith)
  recurrence_few (at_yes _ (at_yes _ g)) =
      let a = ap (λ (b : recurrence.Bound). b.answer) g.pinned in
      let v = ap (λ (b : recurrence.Bound). b.value) g.pinned in
      let h = interval_small ok g.interval in
      (omega arith, omega arith)

  pub resource_few : {b : resource.Bound} → ResourceAt s b → (b.answer ≤ greatest_number) × (b.value ≤ greatest_number)
  resource_few (at_no n _) = absurd (n ok)
  resource_few (at_yes _ e) =
      let a = ap (λ (b : resource.Bound). b.answer) e in
      let v = ap (λ (b : resource.Bound). b.value) e in
      let h = bound_small ok in
      (omega arith, omega arith)

-- at an interval the plan's answer is not 4
pub not_four : {s : Sheet} {L : ℕ} {a : PlanAnswer} → Accepted s L → plan.PlanAt s L a → a.answer ≡ 4 → ⊥
not_four y (at_no n _) z = n y.sheet
not_four y (at_yes _ (at_no n _)) z = n y.interval
not_four y (at_yes _ (at_yes _ (at_no _ p))) z = omega (arith, z, ap (λ (a : PlanAnswer). a.answer) p.pinned)
not_four y (at_yes _ (at_yes _ (at_yes _ (at_no _ e)))) z = omega (arith, z, ap (λ (a : PlanAnswer). a.answer) e)
not_four y (at_yes _ (at_yes _ (at_yes _ (at_yes _ g)))) z = omega (arith, z, ap (λ (a : PlanAnswer). a.answer) g.pinned)
