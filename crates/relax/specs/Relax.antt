-- Tasks that ask less than a task does: that at a coarser interval, and that of one cluster alone, moved to one place.
use Rattle.std.specs.Prelude.{◌≡◌, Bool, true, false, cond, ◌⊎◌, List, ℕ, ◌+◌, ◌-◌, ◌*◌, ◌≤◌, ◌<◌, eqb, ℤ, negsuc, ◌≤ℤ◌}
use Rattle.sizes.specs.Sizes.{most_operations, most_types, most_starts}
use Rattle.laws.specs.Entry.{vec, at}
use Rattle.domain.specs.Domain.{has, row_of}
use Rattle.task.specs.declared.Task.{Task}
use Rattle.task.specs.Plan.{TaskOk, PlanOf, instances_of, busy_of}

-- every plan of p is one of q, which has the same operations
pub record Relaxed (p q : Task) : Type 0 where
  pub task_ok : TaskOk q
  pub ops_same : q.ops ≡ p.ops
  pub kept : (t : ℕ → ℕ) → PlanOf p t → PlanOf q t

-- ---- a coarser interval

-- r is a limit (0 is none) for a type of a instances that stay busy for k slots, where one slot stands for c slots:
-- only a limited type that stays busy for one slot has one, a × c instances or one for each operation
pub record Limit (a k c r : ℕ) : Type 0 where
  pub most : r ≤ most_operations
  pub limited : 0 < r → 0 < a
  pub one_slot : 0 < r → k ≡ 1
  pub total : 0 < r → (r ≡ a * c) ⊎ (r ≡ most_operations)

-- limits for the types of p
pub record Limits (p : Task) (c : ℕ) (out : List ℕ) : Type 0 where
  pub each : (r : ℕ) → r < most_types → Limit (instances_of p r) (busy_of p r) c (vec out r)

-- p at the interval m, with other instances
abbrev pub coarsened : Task → ℕ → List ℕ → Task
coarsened p m instances = record {
  ops = p.ops;
  interval = m;
  resource = p.resource;
  instances = instances;
  busy = p.busy;
  lag = p.lag;
  near = p.near;
}

-- ---- a cluster

-- where the operation that a cluster is taken around, its anchor, is put
abbrev pub anchor : ℕ
anchor = 64

-- how far from it the others of the cluster may be, so that their starts are below `most_starts`
abbrev pub reach : ℕ
reach = 63

-- the lag to a start that is at most so far before
abbrev pub reach_back : ℤ
reach_back = negsuc 62

-- a lag that asks nothing of starts below `most_starts`, -128
abbrev pub no_lag : ℤ
no_lag = negsuc 127

-- r tells that two operations are one, or that their lags hold them within `reach` of each other
pub record Close (same : Bool) (there back : ℤ) (r : Bool) : Type 0 where
  pub yes : r ≡ true → (same ≡ true) ⊎ ((reach_back ≤ℤ there) × (reach_back ≤ℤ back))

-- the starts t have i and j within `reach` of each other
abbrev pub Within : ℕ → ℕ → (ℕ → ℕ) → Type 0
Within i j t = (t i ≤ t j + reach) × (t j ≤ t i + reach)

-- every plan has the operations in c within `reach` of operation i
pub record Cluster (p : Task) (i : ℕ) (c : List Bool) : Type 0 where
  pub near : (j : ℕ) → j < p.ops → has c j ≡ true → (t : ℕ → ℕ) → PlanOf p t → Within i j t

-- r is the type of an operation in the cluster; elsewhere none
pub record InnerType (inside : Bool) (type r : ℕ) : Type 0 where
  pub case : (most_types ≤ r) ⊎ ((inside ≡ true) × (r ≡ type))

-- the same for each of n operations
pub record InnerTypes (n : ℕ) (c : List Bool) (resource out : List ℕ) : Type 0 where
  pub each : (j : ℕ) → j < n → InnerType (has c j) (vec resource j) (vec out j)

-- r is the lag of two operations in the cluster; elsewhere it asks nothing
pub record InnerLag (from to : Bool) (lag r : ℤ) : Type 0 where
  pub case : (r ≡ no_lag) ⊎ ((from ≡ true) × (to ≡ true) × (r ≡ lag))

-- the same for each pair
pub record InnerLags (c : List Bool) (lag out : List ℤ) : Type 0 where
  pub each : (i j : ℕ) → i < most_operations → j < most_operations → InnerLag (has c i) (has c j) (at lag (i * most_operations + j)) (at out (i * most_operations + j))

-- p with other types, lags and pairs that are worth a look
abbrev pub inner : Task → List ℕ → List ℤ → List Bool → Task
inner p resource lag near = record {
  ops = p.ops;
  interval = p.interval;
  resource = resource;
  instances = p.instances;
  busy = p.busy;
  lag = lag;
  near = near;
}

-- the starts of the cluster, all moved by one number so that i starts at the anchor; 0 elsewhere
abbrev pub moved : List Bool → ℕ → (ℕ → ℕ) → ℕ → ℕ
moved c i t j = cond (has c j) (t j + anchor - t i) 0

-- every plan of p, moved, is one of q, which has the same operations
pub record Anchored (p : Task) (i : ℕ) (c : List Bool) (q : Task) : Type 0 where
  pub task_ok : TaskOk q
  pub ops_same : q.ops ≡ p.ops
  pub kept : (t : ℕ → ℕ) → PlanOf p t → PlanOf q (moved c i t)

-- a row for the moved starts of an operation: the anchor's place for the anchor itself, any in the cluster, 0 elsewhere
pub record AnchorRow (inside is-anchor : Bool) (row : List Bool) : Type 0 where
  pub here : inside ≡ true → is-anchor ≡ true → has row anchor ≡ true
  pub any : inside ≡ true → is-anchor ≡ false → (t : ℕ) → t < most_starts → has row t ≡ true
  pub outside : inside ≡ false → has row 0 ≡ true

-- the same for each operation
pub record AnchorRows (i : ℕ) (c : List Bool) (d : List (List Bool)) : Type 0 where
  pub row : (j : ℕ) → j < most_operations → AnchorRow (has c j) (eqb i j) (row_of d j)
