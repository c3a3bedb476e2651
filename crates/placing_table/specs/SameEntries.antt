-- Entries of a sheet past R, N or E play no part in a placing table: for sheets that differ only there the same tables
-- are consistent, and the same instances are free. Assumes nothing.
use Rattle.std.specs.Prelude.{ℕ, ◌<◌}
use Rattle.std.proofs.Common.{arith}
use Rattle.sheet.specs.declared.Sheet.{Sheet}
use Rattle.sheet.specs.Sheet.{InRange}
use Rattle.sheet.specs.Entries.{SameSheet, turn, range_same}
use Rattle.plan.specs.Entries.{holds_same, instance_same, rivals_same, overlap_same}
use Rattle.placing_table.specs.declared.Table.{Table}
use Rattle.placing_table.specs.Table.{placement_at, Placed, Untaken, Consistent, Target, Free}

-- each placed operation is one of the sheet
Within : Sheet → Table → Type 0
Within s table = (j : ℕ) → Placed table j → j < s.op_count

pub target_same : {s s' : Sheet} → SameSheet s s' → {op start : ℕ} → Target s op start → Target s' op start
target_same e t = record { operation = omega (arith, e.op_count, t.operation); in_horizon = omega (arith, e.horizon, t.in_horizon) }

module _ {s s' : Sheet} (e : SameSheet s s') (ok : InRange s) {L : ℕ} {table : Table} where
  untaken_same : Within s table → {op start u : ℕ} → op < s.op_count → Untaken s L table op start u → Untaken s' L table op start u
  unfolding Within
  untaken_same w {op} {start} l f j t =
      let n : op < s'.op_count = omega (arith, e.op_count) in
      let m : j < s'.op_count = omega (arith, e.op_count, w j t.placed) in
      f j (record {
        placed = t.placed;
        rivals = rivals_same (turn e) (range_same e ok) n m t.rivals;
        instance = t.instance;
        overlap = overlap_same (turn e) (range_same e ok) L op start j (placement_at table j).start n m t.overlap;
      })

  pub consistent_same : Consistent s L table → Consistent s' L table
  unfolding Within
  consistent_same c = record {
    entries = λ i. let a = c.entries i in record {
      within = λ p. omega (arith, e.op_count, a.within p);
      start = λ p. omega (arith, e.horizon, a.start p);
      holds = λ p. holds_same e ok L i (placement_at table i).start (a.within p) (a.holds p);
      instance = λ p. instance_same e ok (a.within p) (a.instance p);
      empty = a.empty;
    };
    apart = λ i p. untaken_same (λ j. (c.entries j).within) ((c.entries i).within p) (c.apart i p);
  }

  pub free_same : Consistent s L table → {op start : ℕ} → Target s op start → {u : ℕ} → Free s L table op start u → Free s' L table op start u
  unfolding Within
  free_same c {op} {start} t f = record {
    holds = holds_same e ok L op start t.operation f.holds;
    allowed = instance_same e ok t.operation f.allowed;
    untaken = untaken_same (λ j. (c.entries j).within) t.operation f.untaken;
  }

module _ {s s' : Sheet} (e : SameSheet s s') {L : ℕ} {table : Table} {op start : ℕ} where
  pub free_back : InRange s → Consistent s L table → Target s op start → {u : ℕ} → Free s' L table op start u → Free s L table op start u
  free_back ok c t = free_same (turn e) (range_same e ok) (consistent_same e ok c) (target_same e t)
