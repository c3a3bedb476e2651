-- Entries past R, N or E are no part of a sheet: sheets that differ only there get the same slot orders. Assumes
-- nothing.
use Rattle.std.specs.Prelude.{ℕ, ◌<◌}
use Rattle.std.proofs.Common.{sym, subst, arith}
use Rattle.sheet.specs.declared.Sheet.{Sheet}
use Rattle.sheet.specs.Sheet.{InRange}
use Rattle.sheet.specs.Questions.{Asked, Is, at_no, at_yes}
use Rattle.sheet.specs.Entries.{SameSheet, turn, range_same}
use Rattle.plan.specs.declared.PlanAnswer.{PlanAnswer}
use Rattle.plan.specs.Rules.{Rivals}
use Rattle.plan.specs.Entries.{rivals_same, after_plan_same}
use Rattle.pair_order.specs.Pairs.{Pair, PairNumber}
use Rattle.pair_order.specs.Answers.{refused, refused_by, Ordered, InPlan, SlotOrderAt}
use Rattle.pair_order.specs.declared.SlotOrder.{SlotOrder}

module _ {s s' : Sheet} (e : SameSheet s s') (ok : InRange s) {L : ℕ} {p : PlanAnswer} {a : SlotOrder} where
  asked_same : {i j : ℕ} → i < s.op_count → j < s.op_count → Asked (Rivals s i j) (Is (refused 15)) (Ordered L i j p) a → Asked (Rivals s' i j) (Is (refused 15)) (Ordered L i j p) a
  asked_same h k (at_no n q) = at_no (λ r. n (rivals_same (turn e) (range_same e ok) (omega (arith, e.op_count)) (omega (arith, e.op_count)) r)) q
  asked_same h k (at_yes r q) = at_yes (rivals_same e ok h k r) q

  in_plan_same : {pair : ℕ} → InPlan s L pair p a → InPlan s' L pair p a
  in_plan_same {pair} (at_no n q) = at_no (λ h. n (subst (λ (m : ℕ). PairNumber m pair) (sym e.op_count) h)) q
  in_plan_same {pair} (at_yes h q) = at_yes (subst (λ (m : ℕ). PairNumber m pair) e.op_count h) (record {
    i = q.i;
    j = q.j;
    formed = subst (λ (m : ℕ). Pair m pair q.i q.j) e.op_count q.formed;
    rivals = asked_same (omega (arith, q.formed.before, q.formed.within)) q.formed.within q.rivals;
  })

module _ {s s' : Sheet} (e : SameSheet s s') where
  pub slot_order_same : {L pair : ℕ} {a : SlotOrder} → SlotOrderAt s L pair a → SlotOrderAt s' L pair a
  slot_order_same = after_plan_same e refused_by (λ ok p. in_plan_same e ok)
