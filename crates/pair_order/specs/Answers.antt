-- Slot order: its questions in order, then the whole answer with what makes it right, in terms of the plan at the
-- interval.
use Rattle.std.specs.Prelude.{ℕ, ◌<◌, ◌≡◌}
use Rattle.laws.specs.Entry.{zeros, vec}
use Rattle.sheet.specs.declared.Sheet.{Sheet}
use Rattle.plan.specs.declared.PlanAnswer.{PlanAnswer}
use Rattle.plan.specs.Rules.{Rivals, slot}
use Rattle.sheet.specs.Questions.{Asked, Is}
use Rattle.plan.specs.AfterPlan.{AfterPlan}
use Rattle.pair_order.specs.Pairs.{Pair, PairNumber}
use Rattle.pair_order.specs.declared.SlotOrder.{SlotOrder}

-- 0 for the same slot, 1 if the first has the smaller slot, 2 if the second has
pub data Order (a b : ℕ) : ℕ → Type 0 where
  same : a ≡ b → Order a b 0
  first : a < b → Order a b 1
  second : b < a → Order a b 2

-- the number of a refusal, and 0 for every other number
abbrev pub refused : ℕ → SlotOrder
refused n = record { answer = n; order = 0; loop_length = 0; loop_edges = zeros }

-- the plan's refusal, for 5 with the edges
abbrev pub refused_by : PlanAnswer → SlotOrder
refused_by p = record { answer = p.answer; order = 0; loop_length = p.loop_length; loop_edges = p.loop_edges }

-- 0 with the order of the slots that operations i and j have in the plan p
pub record Ordered (L i j : ℕ) (p : PlanAnswer) (a : SlotOrder) : Type 0 where
  pub order : ℕ
  pub ordered : Order (slot L (vec p.starts i)) (slot L (vec p.starts j)) order
  pub pinned : a ≡ record { answer = 0; order = order; loop_length = 0; loop_edges = zeros }

-- question 15 about the operations of the pair, then their order in the plan p
pub record Paired (s : Sheet) (L pair : ℕ) (p : PlanAnswer) (a : SlotOrder) : Type 0 where
  pub i : ℕ
  pub j : ℕ
  pub formed : Pair s.op_count pair i j
  pub rivals : Asked (Rivals s i j) (Is (refused 15)) (Ordered L i j p) a

-- questions 14 and 15 in the plan given
abbrev pub InPlan : Sheet → ℕ → ℕ → PlanAnswer → SlotOrder → Type 0
InPlan s L pair p = Asked (PairNumber s.op_count pair) (Is (refused 14)) (Paired s L pair p)

-- the service "slot order" of a pair number: the questions of the plan at the interval, then 14 and 15, then the order
abbrev pub SlotOrderAt : Sheet → ℕ → ℕ → SlotOrder → Type 0
SlotOrderAt s L pair = AfterPlan refused_by s L (InPlan s L pair)
