-- A placing alters one entry: the table with that entry stored is the table that the placing gives. With a refusal the
-- entry is one that stands there. Assumes nothing.
use Rattle.std.specs.Prelude.{◌≡◌, List, ℕ, ◌<◌, length, get_or, set}
use Rattle.std.proofs.Common.{sym, ap, subst, ◌∙◌, ⊎_elim, arith, get_or-set_same}
use Rattle.std.proofs.lemmas.List.{set-get_or}
use Rattle.sizes.specs.Sizes.{most_operations}
use Rattle.sheet.specs.declared.Sheet.{Sheet}
use Rattle.placing_table.specs.declared.Placement.{Placement}
use Rattle.placing_table.specs.declared.Table.{Table}
use Rattle.placing_table.specs.Table.{nothing, placed_at, placement_at, placing}
use Rattle.placing.specs.declared.PlaceAnswer.{PlaceAnswer}
use Rattle.placing.specs.declared.Change.{Change}
use Rattle.placing.specs.Answers.{PlaceAt}
use Rattle.placing.specs.Asking.{has_entry, place_kept_or}

-- the table with one entry stored
abbrev pub storing : Table → ℕ → Placement → Table
storing table at p = record { entries = set table.entries at p }

-- what a placing answers, with the table in which the entry is stored
abbrev pub changed : Table → Change → PlaceAnswer
changed table c = record { answer = c.answer; instance = c.instance; table = storing table c.at c.entry }

-- the entry that stands there, stored once more
kept : (table : Table) (at : ℕ) → storing table at (placement_at table at) ≡ table
kept table at = ap {B = Table} (λ (l : List Placement). record { entries = l }) (set-get_or table.entries at nothing)

-- the entry of the table afterwards, stored in the table before, makes the table afterwards
abbrev OneEntry : Table → ℕ → Table → Type 0
OneEntry table at after = storing table at (placement_at after at) ≡ after

placed_entry : (table : Table) (op start u at : ℕ) → op < length table.entries → at ≡ op → OneEntry table at (placing table op start u)
placed_entry table op start u at n here =
    let p : Placement = placed_at start u in
    let e : get_or (set table.entries op p) op nothing ≡ p = get_or-set_same table.entries op p nothing n in
    subst (λ (k : ℕ). OneEntry table k (placing table op start u)) (sym here) (ap (storing table op) e)

module _ {s : Sheet} {L : ℕ} {table : Table} {op start : ℕ} (long : length table.entries ≡ most_operations) {at : ℕ} (here : op < most_operations → at ≡ op) where
  one_entry : {r : PlaceAnswer} → PlaceAt s L table op start r → OneEntry table at r.table
  one_entry a =
      ⊎_elim (λ e. subst (OneEntry table at) (sym e) (kept table at))
      (λ p.
      let n = has_entry p.placeable in
      subst (OneEntry table at) (sym (ap (λ (x : PlaceAnswer). x.table) p.pinned)) (placed_entry table op start p.instance at (omega arith) (here n)))
      (place_kept_or a)

  pub as_changed : {r : PlaceAnswer} {p : Placement} → PlaceAt s L table op start r → p ≡ placement_at r.table at
      → PlaceAt s L table op start (changed table (record { answer = r.answer; instance = r.instance; at = at; entry = p }))
  as_changed {r} {p} a e =
      subst (λ (t : Table). PlaceAt s L table op start (record { answer = r.answer; instance = r.instance; table = t }))
      (sym (one_entry a) ∙ ap (storing table at) (sym e)) a
