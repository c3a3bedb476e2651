-- Laws of windows. One of the whole horizon, lo 0 and hi H − 1, asks nothing: an operation that has it may start
-- wherever the horizon allows it. No plan starts an operation before its earliest start over every lo; so where that is
-- past its hi, there is no plan. Assumes nothing.
use Rattle.std.specs.Prelude.{◌≡◌, ℕ, ◌+◌, ◌<◌, ◌≤◌}
use Rattle.std.proofs.Common.{arith}
use Rattle.dependence.specs.Rules.{Earliest}
use Rattle.sheet.specs.declared.Sheet.{Sheet}
use Rattle.sheet.specs.Sheet.{type_of, op_at, graph_of}
use Rattle.plan.specs.Rules.{HoldsAllowed, InHorizon, StartAllowed, Plan}
use Rattle.plan.specs.Answers.{HasPlan}

-- operation i has the window of the whole horizon
pub record WholeWindow (s : Sheet) (i : ℕ) : Type 0 where
  pub lo : (op_at s i).lo ≡ 0
  pub hi : (op_at s i).hi + 1 ≡ s.horizon

pub whole_window : {s : Sheet} {L i t : ℕ} → WholeWindow s i → InHorizon s.horizon (type_of s i).latency t → HoldsAllowed s L i t → StartAllowed s L i t
whole_window w h d = record { in_horizon = h; in_window = record { from = omega (arith, w.lo); to = omega (arith, w.hi, h.starts) }; holds = d }

-- e are earliest starts, each at least its lo
module _ (s : Sheet) (L : ℕ) (e : ℕ → ℕ) (x : Earliest (graph_of s) L (λ i. (op_at s i).lo) e) (i : ℕ) (h : i < s.op_count) where
  pub not_earlier : (t u : ℕ → ℕ) → Plan s L t u → e i ≤ t i
  not_earlier t u p = x.least t (λ j k. (p.start j k).in_window.from) p.dependence i h

  pub never_met : (op_at s i).hi < e i → HasPlan s L → ⊥
  never_met l p = omega (arith, l, not_earlier p.starts p.instances p.plan, (p.plan.start i h).in_window.to)
