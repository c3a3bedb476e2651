-- Where every K is 1 (fully pipelined units) a placing table is what it was before slip 6: an operation has its
-- instance in the slot of its start alone, and holding asks nothing. Definitions first, then the laws, which assume
-- nothing.
use Rattle.std.specs.Prelude.{ℕ, ◌<◌, ◌≤◌, ◌≡◌, true, false}
use Rattle.sheet.specs.declared.Sheet.{Sheet}
use Rattle.sheet.specs.Sheet.{InRange}
use Rattle.plan.specs.Rules.{InstanceAllowed, Rivals, slot}
use Rattle.plan.specs.Pipelined.{Pipelined, may_hold, overlap_slot, slot_overlap}
use Rattle.placing_table.specs.declared.Placement.{Placement}
use Rattle.placing_table.specs.declared.Table.{Table}
use Rattle.placing_table.specs.Table.{placement_at, Placed, Taken, Untaken, Consistent, Free}

-- ---- definitions

-- an entry: starts, instances and what is not placed as in `EntryAllowed`
pub record SlotEntryAllowed (s : Sheet) (i : ℕ) (p : Placement) : Type 0 where
  pub within : p.placed ≡ true → i < s.op_count
  pub start : p.placed ≡ true → p.start < s.horizon
  pub instance : p.placed ≡ true → InstanceAllowed s i p.instance
  pub empty : p.placed ≡ false → (p.start ≡ 0) × (p.instance ≡ 0)

-- operation j, a placed rival of op, has the instance u in the slot that op has at this start
pub record SlotTaken (s : Sheet) (L : ℕ) (table : Table) (op start u j : ℕ) : Type 0 where
  pub placed : Placed table j
  pub rivals : Rivals s op j
  pub instance : (placement_at table j).instance ≡ u
  pub in_slot : slot L start ≡ slot L (placement_at table j).start

-- no placed rival of op has it there
abbrev pub SlotUntaken : Sheet → ℕ → Table → ℕ → ℕ → ℕ → Type 0
SlotUntaken s L table op start u = (j : ℕ) → SlotTaken s L table op start u j → ⊥

-- an instance that operation op can get at this start
pub record SlotFree (s : Sheet) (L : ℕ) (table : Table) (op start u : ℕ) : Type 0 where
  pub allowed : InstanceAllowed s op u
  pub untaken : SlotUntaken s L table op start u

-- each entry is allowed, and no two placed rivals have one slot and instance
pub record SlotConsistent (s : Sheet) (L : ℕ) (table : Table) : Type 0 where
  pub entries : (i : ℕ) → SlotEntryAllowed s i (placement_at table i)
  pub apart : (i : ℕ) → Placed table i → SlotUntaken s L table i (placement_at table i).start (placement_at table i).instance

-- ---- laws

module _ {s : Sheet} (one : Pipelined s) (ok : InRange s) (L : ℕ) (table : Table) where
  taken_slot : (op start u j : ℕ) → op < s.op_count → j < s.op_count → Taken s L table op start u j → SlotTaken s L table op start u j
  taken_slot op start u j h k t = record {
    placed = t.placed;
    rivals = t.rivals;
    instance = t.instance;
    in_slot = overlap_slot one ok L op start j (placement_at table j).start h k t.overlap;
  }

  slot_taken : (op start u j : ℕ) → op < s.op_count → j < s.op_count → SlotTaken s L table op start u j → Taken s L table op start u j
  slot_taken op start u j h k t = record {
    placed = t.placed;
    rivals = t.rivals;
    instance = t.instance;
    overlap = slot_overlap one ok L op start j (placement_at table j).start h k t.in_slot;
  }

  -- where each placed operation is one of the sheet
  module _ (within : (j : ℕ) → Placed table j → j < s.op_count) (op start u : ℕ) (h : op < s.op_count) where
    untaken_slots : Untaken s L table op start u → SlotUntaken s L table op start u
    untaken_slots f j t = f j (slot_taken op start u j h (within j t.placed) t)

    slots_untaken : SlotUntaken s L table op start u → Untaken s L table op start u
    slots_untaken f j t = f j (taken_slot op start u j h (within j t.placed) t)

  -- question 10
  pub consistent_slots : Consistent s L table → SlotConsistent s L table
  consistent_slots c = record {
    entries = λ i. let a = c.entries i in record { within = a.within; start = a.start; instance = a.instance; empty = a.empty };
    apart = λ i p. untaken_slots (λ j. (c.entries j).within) i (placement_at table i).start (placement_at table i).instance ((c.entries i).within p) (c.apart i p);
  }

  pub slots_consistent : 1 ≤ L → SlotConsistent s L table → Consistent s L table
  slots_consistent low c = record {
    entries = λ i. let a = c.entries i in record {
      within = a.within;
      start = a.start;
      holds = λ p. may_hold one ok L low i (placement_at table i).start (a.within p);
      instance = a.instance;
      empty = a.empty;
    };
    apart = λ i p. slots_untaken (λ j. (c.entries j).within) i (placement_at table i).start (placement_at table i).instance ((c.entries i).within p) (c.apart i p);
  }

  -- questions 13 and 17, which are put once 10 and 11 got a yes
  pub free_slots : Consistent s L table → (op start u : ℕ) → op < s.op_count → Free s L table op start u → SlotFree s L table op start u
  free_slots c op start u h f = record { allowed = f.allowed; untaken = untaken_slots (λ j. (c.entries j).within) op start u h f.untaken }

  pub slots_free : 1 ≤ L → Consistent s L table → (op start u : ℕ) → op < s.op_count → SlotFree s L table op start u → Free s L table op start u
  slots_free low c op start u h f = record {
    holds = may_hold one ok L low op start h;
    allowed = f.allowed;
    untaken = slots_untaken (λ j. (c.entries j).within) op start u h f.untaken;
  }
