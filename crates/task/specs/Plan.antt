-- What a plan's starts keep, for a task: a lag for each pair of operations, and types with their instances, which stay
-- busy for some slots.
use Rattle.std.specs.Prelude.{◌≡◌, Bool, true, false, List, ℕ, ◌+◌, ◌*◌, ◌%◌, ◌≤◌, ◌<◌, ℤ, pos, negsuc, ◌+ℤ◌, ◌≤ℤ◌, get_or}
use Rattle.sizes.specs.Sizes.{most_operations, most_types, most_instances, most_busy, most_starts, most_intervals}
use Rattle.laws.specs.Entry.{vec}
use Rattle.laws.specs.Count.{tally}
use Rattle.held_slots.specs.Seated.{SeatedIn, near_w}
use Rattle.task.specs.declared.Task.{Task}

-- the type of operation i; from `most_types` on it is none, and asks for no instance
abbrev pub type_of : Task → ℕ → ℕ
type_of p i = get_or p.resource i 0

-- the instances of type r; 0 is unlimited
abbrev pub instances_of : Task → ℕ → ℕ
instances_of p r = get_or p.instances r 0

-- the lag from operation i to operation j, in a table that has them row by row: the start of j is to be at least that
-- much after that of i
abbrev pub lag_at : List ℤ → ℕ → ℕ → ℤ
lag_at lag i j = get_or lag (i * most_operations + j) (pos 0)

-- the same of a task
abbrev pub lag_of : Task → ℕ → ℕ → ℤ
lag_of p i j = lag_at p.lag i j

-- the slots that an operation of type r holds its instance
abbrev pub busy_of : Task → ℕ → ℕ
busy_of p r = get_or p.busy r 0

-- the starts t and the instances u keep the rules of type r
abbrev pub SeatedFor : Task → ℕ → (ℕ → ℕ) → (ℕ → ℕ) → Type 0
SeatedFor p r t u = SeatedIn p.ops (type_of p) p.interval (instances_of p r) (busy_of p r) r t u

-- the starts t of n operations keep each lag from operation i
abbrev pub LagsFrom : ℕ → List ℤ → (ℕ → ℕ) → ℕ → Type 0
LagsFrom n lag t i = (j : ℕ) → j < n → (pos (t i) +ℤ lag_at lag i j) ≤ℤ pos (t j)

-- they keep every lag
abbrev pub LagsKept : ℕ → List ℤ → (ℕ → ℕ) → Type 0
LagsKept n lag t = (i : ℕ) → i < n → LagsFrom n lag t i

-- the starts t have instances in type r, if it is limited
abbrev pub TypeSeated : Task → ℕ → (ℕ → ℕ) → Type 0
TypeSeated p r t = 0 < instances_of p r → (u : ℕ → ℕ) × SeatedFor p r t u

-- the starts t have instances in each limited type
abbrev pub Seated : Task → (ℕ → ℕ) → Type 0
Seated p t = (r : ℕ) → r < most_types → TypeSeated p r t

-- the rules that a plan's starts keep, besides that they are in the first table
pub record PlanOf (p : Task) (t : ℕ → ℕ) : Type 0 where
  pub lags : LagsKept p.ops p.lag t
  pub seated : Seated p t

-- the least lag that the dependence part gives, -16384
abbrev pub least_lag : ℤ
least_lag = negsuc 16383

-- the greatest lag that matters, as starts are below it
abbrev pub most_lag : ℤ
most_lag = pos most_starts

-- a lag between those
pub record SmallLag (z : ℤ) : Type 0 where
  pub low : least_lag ≤ℤ z
  pub high : z ≤ℤ most_lag

-- the lags of n operations are such
abbrev pub LagsSmall : ℕ → List ℤ → Type 0
LagsSmall n lag = (i j : ℕ) → i < n → j < n → SmallLag (lag_at lag i j)

-- a task whose numbers are within its arrays; a type that stays busy for one slot may have as many instances as there
-- are operations
pub record TaskOk (p : Task) : Type 0 where
  pub ops_ok : p.ops ≤ most_operations
  pub interval_ok : 0 < p.interval
  pub interval_max : p.interval ≤ most_intervals
  pub lag_ok : LagsSmall p.ops p.lag
  pub instances_ok : (r : ℕ) → r < most_types → instances_of p r ≤ most_operations
  pub instances_busy : (r : ℕ) → r < most_types → 1 < busy_of p r → instances_of p r ≤ most_instances
  pub busy_some : (r : ℕ) → r < most_types → 1 ≤ busy_of p r
  pub busy_ok : (r : ℕ) → r < most_types → busy_of p r ≤ most_busy

-- the starts x of n operations are below `most_starts`
pub record Small (n : ℕ) (x : List ℕ) : Type 0 where
  pub small : (i : ℕ) → i < n → vec x i < most_starts

-- n operations with the types ty and the starts t, of l slots: the starts of type r in the stretch of k slots from the
-- start of operation i on
abbrev pub in_stretch : ℕ → (ℕ → ℕ) → ℕ → (ℕ → ℕ) → ℕ → ℕ → ℕ → ℕ
in_stretch n ty l t i r k = tally n (near_w ty t l r (t i % l) k)

-- the stretch of as many slots as the type of operation i stays busy has more of its starts than the type has instances
pub record Overfull (n : ℕ) (ty limit busy : ℕ → ℕ) (l : ℕ) (t : ℕ → ℕ) (i : ℕ) : Type 0 where
  pub type_in : ty i < most_types
  pub limited : 0 < limit (ty i)
  pub over : limit (ty i) < in_stretch n ty l t i (ty i) (busy (ty i))

-- no operation's stretch has
pub record Roomy (p : Task) (t : ℕ → ℕ) : Type 0 where
  pub none : (i : ℕ) → i < p.ops → Overfull p.ops (type_of p) (instances_of p) (busy_of p) p.interval t i → ⊥

-- where r is false some stretch has too many starts: they are no plan's
pub record RoomKept (p : Task) (t : ℕ → ℕ) (r : Bool) : Type 0 where
  pub yes : r ≡ true → Roomy p t
  pub no : r ≡ false → PlanOf p t → ⊥
