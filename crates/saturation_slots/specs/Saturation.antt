-- Rule 2: k slots in turn, as many as a type stays busy, take at most as many of its starts as it has instances; so
-- does a stretch of w slots from slot s on for each k slots that cover what the type still uses of it.
-- What the functions of rule 2 answer; nothing here speaks of a whole task. Assumes nothing.
use Rattle.std.specs.Prelude.{◌≡◌, ℕ, ◌+◌, ◌-◌, ◌*◌, ◌/◌, ◌%◌, ◌<◌, ◌≤◌, Bool, true, false, cond, ◌≢◌, ◌⊎◌, List, ◌==◌, nat_le, nat_lt}
use Rattle.sizes.specs.Sizes.{most_starts, most_intervals}
use Rattle.laws.specs.Entry.{vec}
use Rattle.laws.specs.Count.{tally}
use Rattle.domain.specs.Domain.{has, row_of, In, Part, Within}
use Rattle.held_slots.specs.Held.{off}
use Rattle.held_slots.specs.Seated.{near_w}
use Rattle.saturation_slots.specs.declared.Case.{Case}

-- the slot w after slot s
abbrev pub slot_at : ℕ → ℕ → ℕ → ℕ
slot_at l s w = cond (nat_lt (s + w) l) (s + w) (s + w - l)

-- operation i is of type r and reaches at most w
abbrev pub inside_b : (ℕ → ℕ) → (ℕ → ℕ) → ℕ → ℕ → ℕ → Bool
inside_b ty ρ r w i = cond (ty i == r) (nat_le (ρ i) w) false

-- the row r has the slot of each start of `row`
pub record SlotRow (l : ℕ) (row r : List Bool) : Type 0 where
  pub slot : (t : ℕ) → t < most_starts → has row t ≡ true → has r (t % l) ≡ true

-- the row r has the slots of u, and slot k for each start m + k of `row` with k below l
pub record WithBlock (l m : ℕ) (row u r : List Bool) : Type 0 where
  pub old : (k : ℕ) → has u k ≡ true → has r k ≡ true
  pub new : (k : ℕ) → k < l → m + k < most_starts → has row (m + k) ≡ true → has r k ≡ true

-- the slots of each operation of type r
pub record Slotted (n l : ℕ) (ty : ℕ → ℕ) (r : ℕ) (ok z : List (List Bool)) : Type 0 where
  pub each : (i : ℕ) → i < n → ty i ≡ r → SlotRow l (row_of ok i) (row_of z i)

-- the row r has the slots of u and those of `row`
pub record WithSlots (u row r : List Bool) : Type 0 where
  pub old : (b : ℕ) → b < most_intervals → has u b ≡ true → has r b ≡ true
  pub new : (b : ℕ) → b < most_intervals → has row b ≡ true → has r b ≡ true

-- `used` has each slot of each operation of type r
pub record UsedBy (n : ℕ) (ty : ℕ → ℕ) (r : ℕ) (z : List (List Bool)) (used : List Bool) : Type 0 where
  pub all : (i : ℕ) → i < n → ty i ≡ r → (b : ℕ) → b < most_intervals → has (row_of z i) b ≡ true → has used b ≡ true

-- each slot of the row is below r
pub record FarRow (l : ℕ) (row : List Bool) (r : ℕ) : Type 0 where
  pub far : (b : ℕ) → b < l → has row b ≡ true → b < r

-- each slot of operation i is less than its reach after slot s
pub record Reach (n l s : ℕ) (z : List (List Bool)) (reach : List ℕ) : Type 0 where
  pub each : (i : ℕ) → i < n → (b : ℕ) → b < l → has (row_of z i) b ≡ true → off l s b < vec reach i

-- the reach r from the next slot on: l where the slot left behind is one of the operation's (b), else at least the old
-- reach less 1
pub record StepOne (b : Bool) (l old r : ℕ) : Type 0 where
  pub yes : b ≡ true → r ≡ l
  pub no : b ≡ false → old ≤ r + 1

-- k slots in turn take at most a starts of type r
pub record Room (n : ℕ) (ty : ℕ → ℕ) (l a k r : ℕ) (t : ℕ → ℕ) : Type 0 where
  pub room : (s : ℕ) → s < l → tally n (near_w ty t l r s k) ≤ a

-- what is known of the starts t: each operation of type r has its slot among the used ones, and nearer than its reach
pub record Fits (n : ℕ) (ty : ℕ → ℕ) (l r s : ℕ) (used : List Bool) (reach : List ℕ) (t : ℕ → ℕ) : Type 0 where
  pub uses : (i : ℕ) → i < n → ty i ≡ r → has used (t i % l) ≡ true
  pub reaches : (i : ℕ) → i < n → ty i ≡ r → off l s (t i % l) < vec reach i

-- a search for full stretches from slot s finds that no starts fit
pub record NoRoom (n : ℕ) (ty : ℕ → ℕ) (l a k r s : ℕ) (used : List Bool) (reach : List ℕ) : Type 0 where
  pub none : (t : ℕ → ℕ) → Room n ty l a k r t → Fits n ty l r s used reach t → ⊥

-- or how far from s each operation of type r is at least
pub record Bars (n : ℕ) (ty : ℕ → ℕ) (l a k r s : ℕ) (used : List Bool) (reach : List ℕ) (bar : List ℕ) : Type 0 where
  pub safe : (t : ℕ → ℕ) → Room n ty l a k r t → Fits n ty l r s used reach t → (i : ℕ) → i < n → ty i ≡ r → vec bar i ≤ off l s (t i % l)

-- the same for a case
abbrev pub NoRoomIn : Case → (ℕ → ℕ) → ℕ → List Bool → List ℕ → Type 0
NoRoomIn c ty s used reach = NoRoom c.ops ty c.interval c.instances c.busy c.kind s used reach

abbrev pub BarsIn : Case → (ℕ → ℕ) → ℕ → List Bool → List ℕ → List ℕ → Type 0
BarsIn c ty s used reach bar = Bars c.ops ty c.interval c.instances c.busy c.kind s used reach bar

-- the starts that a stretch takes (`cap`), and how many slots that count covers, with slot w more: k slots from there
-- on take a more where the type uses slot w and it is not covered yet
pub record Widened (cap covered a k : ℕ) (used : Bool) (w cap' covered' : ℕ) : Type 0 where
  pub new : used ≡ true → covered ≤ w → (cap' ≡ cap + a) × (covered' ≡ w + k)
  pub unused : used ≡ false → (cap' ≡ cap) × (covered' ≡ covered)
  pub inside : w < covered → (cap' ≡ cap) × (covered' ≡ covered)

-- the bars after a stretch of w slots that is full
pub record Raised (n : ℕ) (bar : List ℕ) (ty : ℕ → ℕ) (reach : List ℕ) (r w : ℕ) (out : List ℕ) : Type 0 where
  pub each : (i : ℕ) → i < n → (vec out i ≡ vec bar i) ⊎ ((ty i ≡ r) × (w < vec reach i) × (vec out i ≡ w))

-- the row r has only starts of `row`, and all whose slot is not b
pub record WithoutSlot (b l : ℕ) (row r : List Bool) : Type 0 where
  pub was : Part r row
  pub stays : (t : ℕ) → t < most_starts → has row t ≡ true → t % l ≢ b → has r t ≡ true

-- the row r has only starts of `row`, and all whose slot is at least bar after s
pub record Trimmed (bar s l : ℕ) (row r : List Bool) : Type 0 where
  pub was : Part r row
  pub stays : (t : ℕ) → t < most_starts → has row t ≡ true → bar ≤ off l s (t % l) → has r t ≡ true

-- `out` allows no start anew, and loses no starts of d in which the slot of each operation of type r is at least its
-- bar after s
pub record Drained (n : ℕ) (ty : ℕ → ℕ) (r s l : ℕ) (bar : List ℕ) (d out : List (List Bool)) : Type 0 where
  pub within : Within n out d
  pub stays : (t : ℕ → ℕ) → In n d t → ((i : ℕ) → i < n → ty i ≡ r → vec bar i ≤ off l s (t i % l)) → In n out t

-- what a search for full stretches from slot s answers: whether it fails, else the domain without the starts that it
-- rules out
pub record SlotCut (c : Case) (ty : ℕ → ℕ) (s : ℕ) (used : List Bool) (reach : List ℕ) (d out : List (List Bool)) (fail : Bool) : Type 0 where
  pub fails : fail ≡ true → NoRoomIn c ty s used reach
  pub cuts : fail ≡ false → (bar : List ℕ) × BarsIn c ty s used reach bar × Drained c.ops ty c.kind s c.interval bar d out

-- b tells that a type has more operations than its instances take, each as many as the interval has room for
pub record Crowded (most l a k : ℕ) (b : Bool) : Type 0 where
  pub yes : b ≡ true → (k ≤ l) × (a * (l / k) < most)
