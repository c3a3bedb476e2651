-- The first operation at which starts and instances that somebody hands in break a rule of a plan: the rules are asked
-- of the first operations alone, one more at a time.
use Rattle.std.specs.Prelude.{◌≡◌, ℕ, ◌+◌, ◌<◌, pos, ◌+ℤ◌, ◌≤ℤ◌}
use Rattle.dependence.specs.Graph.{total}
use Rattle.sheet.specs.declared.Sheet.{Sheet}
use Rattle.sheet.specs.Sheet.{edge_at, graph_of}
use Rattle.plan.specs.Rules.{Plan, StartAllowed, InstanceAllowed, Rivals, Overlap}

-- the rules of a plan among the first n operations: starts, the dependences with both ends among them, instances, and
-- rivals among them with the same instance share no held slot
pub record PlanUpTo (s : Sheet) (L : ℕ) (t u : ℕ → ℕ) (n : ℕ) : Type 0 where
  pub start : (i : ℕ) → i < n → StartAllowed s L i (t i)
  pub dependence : (k : ℕ) → k < s.edge_count → (edge_at s k).from < n → (edge_at s k).to < n
      → (pos (t (edge_at s k).from) +ℤ total (graph_of s) L k) ≤ℤ pos (t (edge_at s k).to)
  pub instance : (i : ℕ) → i < n → InstanceAllowed s i (u i)
  pub apart : (i j : ℕ) → i < n → j < n → Rivals s i j → u i ≡ u j → Overlap s L i (t i) j (t j) → ⊥

-- operation i is the first that breaks a rule: those before it keep them all, and with it they do not
pub record FirstBroken (s : Sheet) (L : ℕ) (t u : ℕ → ℕ) (i : ℕ) : Type 0 where
  pub operation : i < s.op_count
  pub before : PlanUpTo s L t u i
  pub with : PlanUpTo s L t u (i + 1) → ⊥

-- r is the first operation that breaks a rule, or the count of operations where it is a plan
pub data Breaks (s : Sheet) (L : ℕ) (t u : ℕ → ℕ) (r : ℕ) : Type 0 where
  none : r ≡ s.op_count → Plan s L t u → Breaks s L t u r
  first : FirstBroken s L t u r → Breaks s L t u r
