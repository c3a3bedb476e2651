-- Rule 3: instances for the operations of a type that are down to one slot, and how many more they leave room for.
-- What the functions of rule 3 answer.
use Rattle.std.specs.Prelude.{◌≡◌, Bool, true, false, cond, ◌⊎◌, List, ℕ, ◌+◌, ◌*◌, ◌/◌, ◌-◌, ◌%◌, ◌≤◌, ◌<◌, eqb, ltb, set}
use Rattle.sizes.specs.Sizes.{most_operations, most_instances, most_starts, most_intervals}
use Rattle.laws.specs.Entry.{vec}
use Rattle.laws.specs.Count.{tally}
use Rattle.domain.specs.Domain.{has, row_of, In}
use Rattle.task.specs.declared.Task.{Task}
use Rattle.task.specs.Plan.{PlanOf}
use Rattle.held_slots.specs.Seated.{SeatedIn, on_instance}
use Rattle.seats.specs.declared.Case.{Case}
use Rattle.seats.specs.declared.Seats.{Seats}

-- ---- numbers within their arrays

-- a type that fits into the interval
pub record CaseOk (c : Case) : Type 0 where
  pub ops_ok : c.ops ≤ most_operations
  pub interval_ok : 0 < c.interval
  pub interval_max : c.interval ≤ most_intervals
  pub instances_ok : c.instances ≤ most_instances
  pub busy_some : 1 ≤ c.busy
  pub fits : c.busy ≤ c.interval
  pub pins_ok : (i : ℕ) → i < most_operations → vec c.pin i ≤ most_intervals

-- the slots and counts of the instances
pub record SeatsOk (c : Case) (s : Seats) : Type 0 where
  pub used_ok : s.used ≤ c.instances
  pub first_ok : (v : ℕ) → v < most_instances → vec s.first v ≤ c.interval
  pub last_ok : (v : ℕ) → v < most_instances → vec s.last v ≤ c.interval
  pub taken_ok : (v : ℕ) → v < most_instances → vec s.taken v ≤ vec s.last v

-- ---- the next pin

-- the key of an operation with a pin: by slot, then by number
abbrev pub key_of : Case → ℕ → ℕ
key_of c i = vec c.pin i * most_operations + i

-- where r is true, from ≤ key < best
pub record Within (from key best : ℕ) (r : Bool) : Type 0 where
  pub yes : r ≡ true → (from ≤ key) × (key < best)

-- operation x has a pin, and its key is not below `from`
pub record NextPin (c : Case) (from x : ℕ) : Type 0 where
  pub op : x < c.ops
  pub pinned : vec c.pin x < c.interval
  pub key : from ≤ key_of c x

-- ---- what is known of the instances

-- where r is true slot s is not before the last; where it is false, k slots from s on meet those of the last or the
-- first
pub record Free (l k first last s : ℕ) (r : Bool) : Type 0 where
  pub yes : r ≡ true → last ≤ s
  pub no : r ≡ false → (s < last + k) ⊎ (first + l < s + k)

-- a pin more at slot s on instance v
abbrev pub with_pin : Seats → ℕ → ℕ → ℕ → Seats
with_pin s k v b = record {
  used = s.used;
  first = s.first;
  last = set s.last v b;
  taken = set s.taken v (vec s.taken v + (b - vec s.last v) / k);
}

-- a pin at slot b on an instance that had none
abbrev pub with_instance : Seats → ℕ → Seats
with_instance s b = record {
  used = s.used + 1;
  first = set s.first s.used b;
  last = set s.last s.used b;
  taken = set s.taken s.used 0;
}

-- a way to fill the case: starts and instances of a type that keep its rules, have the pins, and are as many as asked
pub record Filling (c : Case) : Type 0 where
  pub ty : ℕ → ℕ
  pub r : ℕ
  pub t : ℕ → ℕ
  pub u : ℕ → ℕ
  pub seated : SeatedIn c.ops ty c.interval c.instances c.busy r t u
  pub pinned : (i : ℕ) → i < c.ops → vec c.pin i < c.interval → (ty i ≡ r) × (t i % c.interval ≡ vec c.pin i)
  pub many : c.total ≤ tally c.ops (λ i. eqb (ty i) r)

-- whether operation i is of the type, on instance v
abbrev pub on : (c : Case) → Filling c → ℕ → ℕ → Bool
on c f v i = on_instance f.ty f.u f.r v i

-- the slot of operation i
abbrev pub slot : (c : Case) → Filling c → ℕ → ℕ
slot c f i = f.t i % c.interval

-- whether operation i is on instance v with its slot from a on and before b
abbrev pub between : (c : Case) → Filling c → ℕ → ℕ → ℕ → ℕ → Bool
between c f v a b i = cond (on c f v i) (cond (ltb (slot c f i) a) false (ltb (slot c f i) b)) false

-- operation i is on instance v in slot s, and its key is below `from`
pub record Sits (c : Case) (f : Filling c) (v from s i : ℕ) : Type 0 where
  pub here : i < c.ops
  pub there : on c f v i ≡ true
  pub at : slot c f i ≡ s
  pub key : s * most_operations + i < from

-- instance v has operations in the slots a and b, and at most k from a on and before b
pub record Holds (c : Case) (f : Filling c) (v from a b k : ℕ) : Type 0 where
  pub one : ℕ
  pub other : ℕ
  pub sits : Sits c f v from a one
  pub sits' : Sits c f v from b other
  pub order : a ≤ b
  pub few : tally c.ops (between c f v a b) ≤ k

-- so do the used instances, with their first and last slots and counts
pub record Kept (c : Case) (f : Filling c) (from : ℕ) (s : Seats) : Type 0 where
  pub each : (v : ℕ) → v < s.used → Holds c f v from (vec s.first v) (vec s.last v) (vec s.taken v)

-- ---- room

-- the room r of one instance
pub record OneRoom (some : Bool) (l k first last taken r : ℕ) : Type 0 where
  pub yes : some ≡ true → r ≡ taken + (l + first - last) / k
  pub no : some ≡ false → r ≡ l / k

-- no filling with such instances has more than k operations of the type
pub record Roomy (c : Case) (s : Seats) (k : ℕ) : Type 0 where
  pub most : (f : Filling c) (from : ℕ) → Kept c f from s → tally c.ops (λ i. eqb (f.ty i) f.r) ≤ k

-- ---- the search for seats

-- no filling has such instances, by the operations whose keys are below `from`
pub record Unseated (c : Case) (from : ℕ) (s : Seats) : Type 0 where
  pub no : (f : Filling c) → Kept c f from s → ⊥

-- each that has gives operation x an instance from v on
pub record Left (c : Case) (from : ℕ) (s : Seats) (x v : ℕ) : Type 0 where
  pub left : (f : Filling c) → Kept c f from s → v ≤ f.u x

-- ---- the domain

-- the only slot of the row's starts, if it is below l; only where the operation is of the type (`same`)
pub record PinOf (same : Bool) (row : List Bool) (l r : ℕ) : Type 0 where
  pub small : r ≤ most_intervals
  pub type : r < l → same ≡ true
  pub only : r < l → (t : ℕ) → t < most_starts → has row t ≡ true → t % l ≡ r

-- the same for each operation of type r
pub record Pins (n l : ℕ) (ty : ℕ → ℕ) (r : ℕ) (d : List (List Bool)) (pin : List ℕ) : Type 0 where
  pub small : (i : ℕ) → i < most_operations → vec pin i ≤ most_intervals
  pub each : (i : ℕ) → i < n → PinOf (eqb (ty i) r) (row_of d i) l (vec pin i)

-- b tells that the domain has no plan
pub record Hopeless (p : Task) (d : List (List Bool)) (b : Bool) : Type 0 where
  pub yes : b ≡ true → (t : ℕ → ℕ) → PlanOf p t → In p.ops d t → ⊥
