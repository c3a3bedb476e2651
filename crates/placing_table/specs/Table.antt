-- The placing table (modulo reservation table) as its rules read it: what an entry may be, what is taken, what is free,
-- when the table is consistent.
use Rattle.std.specs.Prelude.{ℕ, ◌<◌, ◌≤◌, ◌≡◌, true, false, get_or, replicate, set, Option, MatchOption}
use Rattle.sizes.specs.Sizes.{most_operations}
use Rattle.sheet.specs.declared.Sheet.{Sheet}
use Rattle.plan.specs.Rules.{HoldsAllowed, InstanceAllowed, Rivals, Overlap}
use Rattle.placing_table.specs.declared.Placement.{Placement}
use Rattle.placing_table.specs.declared.Table.{Table}

-- an entry where nothing is placed: start and instance are 0
abbrev pub nothing : Placement
nothing = record { placed = false; start = 0; instance = 0 }

-- an entry of an operation that is placed
abbrev pub placed_at : ℕ → ℕ → Placement
placed_at start u = record { placed = true; start = start; instance = u }

-- a new table has nothing placed
abbrev pub empty_table : Table
empty_table = record { entries = replicate most_operations nothing }

-- the entry of operation i; past the table nothing is placed
abbrev pub placement_at : Table → ℕ → Placement
placement_at table i = get_or table.entries i nothing

-- operation i is placed
abbrev pub Placed : Table → ℕ → Type 0
Placed table i = (placement_at table i).placed ≡ true

-- ---- a consistent table

-- starts from 0 to H − 1 whatever latency and window, instances as in the rules of a plan, both 0 where nothing is
-- placed, nothing placed past the sheet's operations; `holds` is what the rules of a plan ask of a start for holding an
-- instance: of a limited type K is at most L
pub record EntryAllowed (s : Sheet) (L i : ℕ) (p : Placement) : Type 0 where
  pub within : p.placed ≡ true → i < s.op_count
  pub start : p.placed ≡ true → p.start < s.horizon
  pub holds : p.placed ≡ true → HoldsAllowed s L i p.start
  pub instance : p.placed ≡ true → InstanceAllowed s i p.instance
  pub empty : p.placed ≡ false → (p.start ≡ 0) × (p.instance ≡ 0)

-- operation j, a placed rival of op, holds the instance u in a slot that op would hold at this start
pub record Taken (s : Sheet) (L : ℕ) (table : Table) (op start u j : ℕ) : Type 0 where
  pub placed : Placed table j
  pub rivals : Rivals s op j
  pub instance : (placement_at table j).instance ≡ u
  pub overlap : Overlap s L op start j (placement_at table j).start

-- no placed rival of op holds the instance u in a slot that op would hold at this start
abbrev pub Untaken : Sheet → ℕ → Table → ℕ → ℕ → ℕ → Type 0
Untaken s L table op start u = (j : ℕ) → Taken s L table op start u j → ⊥

-- no rival holds the instance of a placed operation in a slot that this one holds
abbrev pub Apart : Sheet → ℕ → Table → ℕ → Type 0
Apart s L table i = Placed table i → Untaken s L table i (placement_at table i).start (placement_at table i).instance

-- question 10: the placing table is consistent; each entry is allowed, so that no limited operation is placed with K
-- above L, and placed rivals are apart
pub record Consistent (s : Sheet) (L : ℕ) (table : Table) : Type 0 where
  pub entries : (i : ℕ) → EntryAllowed s L i (placement_at table i)
  -- no two placed rivals with one instance that hold a slot in common
  pub apart : (i : ℕ) → Apart s L table i

-- ---- placing

-- question 11: the operation number and the start are in range, whatever latency and window
pub record Target (s : Sheet) (op start : ℕ) : Type 0 where
  pub operation : op < s.op_count
  pub in_horizon : start < s.horizon

-- question 12: the operation is unplaced
abbrev pub Unplaced : Table → ℕ → Type 0
Unplaced table op = (placement_at table op).placed ≡ false

-- an instance that operation op can get at this start: a limited operation has K at most L, the instance is one of its
-- type's, and every slot that op would hold is free of rivals there
pub record Free (s : Sheet) (L : ℕ) (table : Table) (op start u : ℕ) : Type 0 where
  pub holds : HoldsAllowed s L op start
  pub allowed : InstanceAllowed s op u
  pub untaken : Untaken s L table op start u

-- question 13: an instance is free in every slot that op would hold
pub record SomeFree (s : Sheet) (L : ℕ) (table : Table) (op start : ℕ) : Type 0 where
  pub instance : ℕ
  pub free : Free s L table op start instance

-- the lowest of them; of an unlimited type that is 0
pub record LowestFree (s : Sheet) (L : ℕ) (table : Table) (op start u : ℕ) : Type 0 where
  pub free : Free s L table op start u
  pub lowest : (v : ℕ) → Free s L table op start v → u ≤ v

-- which it is, or that there is none
abbrev pub VacancyAt : Sheet → ℕ → Table → ℕ → ℕ → Option ℕ → Type 0
VacancyAt s L table op start v = MatchOption v (SomeFree s L table op start → ⊥) (λ u. LowestFree s L table op start u)

-- the table with this one operation placed besides
abbrev pub placing : Table → ℕ → ℕ → ℕ → Table
placing table op start u = record { entries = set table.entries op (placed_at start u) }
