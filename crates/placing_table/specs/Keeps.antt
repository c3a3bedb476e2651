-- A table in which nothing is placed is consistent, and an operation that is placed on a free instance keeps a table
-- consistent. Assumes nothing.
use Rattle.std.specs.Prelude.{◌≡◌, true, ℕ, ◌<◌, length}
use Rattle.std.proofs.Math.Path.{refl, sym, subst}
use Rattle.std.proofs.Common.{ap, ◌∙◌, get_or-set_same, get_or-set_other}
use Rattle.std.proofs.Math.Decide.{ℕ_discrete}
use Rattle.std.proofs.lemmas.List.{get_or-replicate}
use Rattle.std.proofs.Math.ListN.{get_or-eq_default}
use Rattle.sizes.specs.Sizes.{most_operations}
use Rattle.laws.specs.Z.{true_false}
use Rattle.laws.specs.Store.{store}
use Rattle.sheet.specs.declared.Sheet.{Sheet}
use Rattle.plan.specs.Rules.{Overlap}
use Rattle.plan.specs.Pairs.{rivals_back, overlap_back}
use Rattle.placing_table.specs.declared.Placement.{Placement}
use Rattle.placing_table.specs.declared.Table.{Table}
use Rattle.placing_table.specs.Table.{nothing, placed_at, empty_table, placement_at, Placed, EntryAllowed, Taken, Apart, Consistent, Target, Free, placing}
use Rattle.placing_table.specs.Entries.{empty_allowed, placed_allowed, everywhere}

-- ---- a new table

empty_at : (i : ℕ) → placement_at empty_table i ≡ nothing
empty_at = everywhere (λ i. placement_at empty_table i ≡ nothing) (λ i h. get_or-replicate most_operations i nothing nothing h) (λ i h. get_or-eq_default empty_table.entries nothing h)

pub empty_consistent : (s : Sheet) (L : ℕ) → Consistent s L empty_table
empty_consistent s L = record {
  entries = λ i. subst (EntryAllowed s L i) (sym (empty_at i)) (empty_allowed refl refl refl);
  apart = λ i p. true_false (sym p ∙ ap (λ (x : Placement). x.placed) (empty_at i));
}

-- ---- one operation more

module _ (s : Sheet) (L : ℕ) (table : Table) (op start u : ℕ) (within : op < length table.entries) where
  here : placement_at (placing table op start u) op ≡ placed_at start u
  here = get_or-set_same table.entries op (placed_at start u) nothing within

  there : (i : ℕ) → (i ≡ op → ⊥) → placement_at (placing table op start u) i ≡ placement_at table i
  there i n = get_or-set_other table.entries op i (placed_at start u) nothing n

  module _ (c : Consistent s L table) (target : Target s op start) (free : Free s L table op start u) where
    -- what takes an instance in the new table from an operation at i with the entry p
    Takes : ℕ → Placement → ℕ → Type 0
    Takes i p j = Taken s L (placing table op start u) i p.start p.instance j

    -- the new operation's instance is not taken by another
    new_apart : (j : ℕ) → Takes op (placed_at start u) j → ⊥
    unfolding Takes
    new_apart j t =
        let e = there j (λ q. t.rivals.different (sym q)) in
        free.untaken j (record {
          placed = subst (λ (x : Placement). x.placed ≡ true) e t.placed;
          rivals = t.rivals;
          instance = subst (λ (x : Placement). x.instance ≡ u) e t.instance;
          overlap = subst (λ (x : Placement). Overlap s L op start j x.start) e t.overlap;
        })

    -- nor does it take that of another, nor does an old operation
    old_apart : (i : ℕ) → Placed table i → (j : ℕ) → Takes i (placement_at table i) j → ⊥
    unfolding Takes
    old_apart i p j t = at (ℕ_discrete j op)
      where
        at : Dec (j ≡ op) → ⊥
        at (yes e) =
            let q : Taken s L (placing table op start u) i (placement_at table i).start (placement_at table i).instance op = subst (Taken s L (placing table op start u) i (placement_at table i).start (placement_at table i).instance) e t in
            free.untaken i (record {
              placed = p;
              rivals = rivals_back q.rivals;
              instance = sym (subst (λ (x : Placement). x.instance ≡ (placement_at table i).instance) here q.instance);
              overlap = overlap_back s L i (placement_at table i).start op start (subst (λ (x : Placement). Overlap s L i (placement_at table i).start op x.start) here q.overlap);
            })
        at (no n) =
            let e = there j n in
            c.apart i p j (record {
              placed = subst (λ (x : Placement). x.placed ≡ true) e t.placed;
              rivals = t.rivals;
              instance = subst (λ (x : Placement). x.instance ≡ (placement_at table i).instance) e t.instance;
              overlap = subst (λ (x : Placement). Overlap s L i (placement_at table i).start j x.start) e t.overlap;
            })

    pub keeps : Consistent s L (placing table op start u)
    unfolding Takes
    keeps = record {
      entries = λ i. store (EntryAllowed s L) table.entries op (placed_at start u) nothing within
          (placed_allowed refl target.operation target.in_horizon free.holds free.allowed) i (λ n. c.entries i);
      apart = λ i. at i (ℕ_discrete i op);
    }
      where
        at : (i : ℕ) → Dec (i ≡ op) → Apart s L (placing table op start u) i
        at i (yes e) p = subst (λ (k : ℕ). (j : ℕ) → Takes k (placement_at (placing table op start u) k) j → ⊥) (sym e)
            (subst (λ (x : Placement). (j : ℕ) → Takes op x j → ⊥) (sym here) new_apart)
        at i (no n) p =
            let e = there i n in
            subst (λ (x : Placement). (j : ℕ) → Takes i x j → ⊥) (sym e) (old_apart i (subst (λ (x : Placement). x.placed ≡ true) e p))
