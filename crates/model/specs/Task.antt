-- The search's task for a sheet at an interval: what each of its parts holds.
use Rattle.std.specs.Prelude.{◌≡◌, List, ℕ, ◌+◌, ◌*◌, ◌<◌, ◌≤◌, get_or, ℤ, pos, ◌≤ℤ◌, ◌<ℤ◌}
use Rattle.sizes.specs.Sizes.{most_operations, most_types}
use Rattle.laws.specs.Entry.{cell}
use Rattle.sheet.specs.declared.Sheet.{Sheet}
use Rattle.sheet.specs.Sheet.{type_at, op_at}
use Rattle.task.specs.declared.Task.{Task}
use Rattle.task.specs.Plan.{least_lag, most_lag, SmallLag}

-- the pairs of operations
abbrev pub pairs : ℕ
pairs = most_operations * most_operations

-- a small lag that asks no more than z and, of starts below `most_lag`, no less
pub record Clipped (z r : ℤ) : Type 0 where
  pub small : SmallLag r
  pub under : least_lag ≤ℤ z → r ≤ℤ z
  pub enough : r <ℤ most_lag → z ≤ℤ r

-- the type of each of the first k operations
pub record TypesFor (s : Sheet) (k : ℕ) (resource : List ℕ) : Type 0 where
  pub type : (i : ℕ) → i < k → get_or resource i 0 ≡ (op_at s i).resource

-- the instances of each of the first k types, and 0 past them
pub record LimitsFor (s : Sheet) (k : ℕ) (limits : List ℕ) : Type 0 where
  pub limit : (r : ℕ) → r < k → get_or limits r 0 ≡ (type_at s r).instances
  pub rest : (r : ℕ) → k ≤ r → get_or limits r 0 ≡ 0

-- the slots that each of the first k types holds an instance, and 1 past them
pub record BusyFor (s : Sheet) (k : ℕ) (busy : List ℕ) : Type 0 where
  pub each : (r : ℕ) → r < k → get_or busy r 0 ≡ (type_at s r).busy
  pub rest : (r : ℕ) → k ≤ r → r < most_types → get_or busy r 0 ≡ 1

-- the first k lags of a table, row by row
pub record LagsFor (table : List (List ℤ)) (k : ℕ) (lag : List ℤ) : Type 0 where
  pub lags : (i j : ℕ) → j < most_operations → i * most_operations + j < k → Clipped (cell table i j) (get_or lag (i * most_operations + j) (pos 0))

-- the task
pub record TaskFor (s : Sheet) (L : ℕ) (table : List (List ℤ)) (p : Task) : Type 0 where
  pub ops_are : p.ops ≡ s.op_count
  pub interval_is : p.interval ≡ L
  pub types_for : TypesFor s s.op_count p.resource
  pub limits_for : LimitsFor s s.type_count p.instances
  pub busy_for : BusyFor s s.type_count p.busy
  pub lags_for : LagsFor table pairs p.lag
