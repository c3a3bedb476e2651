-- A new table is consistent, and a placing and a booking keep a table consistent: question 10 gets a yes where no other
-- hand was at the table. Assumes nothing.
use Rattle.std.specs.Prelude.{◌≡◌, ℕ, length}
use Rattle.std.proofs.Common.{sym, ap, subst, ⊎_elim, arith}
use Rattle.sizes.specs.Sizes.{most_operations}
use Rattle.sheet.specs.declared.Sheet.{Sheet}
use Rattle.sheet.specs.Questions.{at_no, at_yes}
use Rattle.placing_table.specs.declared.Table.{Table}
use Rattle.placing_table.specs.Table.{empty_table, Consistent}
use Rattle.placing_table.specs.Keeps.{empty_consistent, keeps}
use Rattle.placing.specs.declared.NewTable.{NewTable}
use Rattle.placing.specs.declared.Offer.{Offer}
use Rattle.placing.specs.declared.PlaceAnswer.{PlaceAnswer}
use Rattle.placing.specs.Answers.{NewAt, PlaceAt, BookAt}
use Rattle.placing.specs.Asking.{has_entry, KeptOrPlaced, place_kept_or, book_kept_or}

module _ {s : Sheet} {L : ℕ} where
  -- nothing is placed in a new table
  pub new_empty : {r : NewTable} → NewAt s L r → r.table ≡ empty_table
  new_empty (at_no _ e) = ap (λ (x : NewTable). x.table) e
  new_empty (at_yes _ (at_no _ e)) = ap (λ (x : NewTable). x.table) e
  new_empty (at_yes _ (at_yes _ e)) = ap (λ (x : NewTable). x.table) e

  pub new_consistent : {r : NewTable} → NewAt s L r → Consistent s L r.table
  new_consistent a = subst (Consistent s L) (sym (new_empty a)) (empty_consistent s L)

  still_consistent : {table : Table} {op start : ℕ} {r : PlaceAnswer} → length table.entries ≡ most_operations
      → Consistent s L table → KeptOrPlaced s L table op start r → Consistent s L r.table
  still_consistent {table} {op} {start} long c =
      ⊎_elim (λ e. subst (Consistent s L) (sym e) c)
      (λ p.
      let y = p.placeable in
      subst (Consistent s L) (sym (ap (λ (x : PlaceAnswer). x.table) p.pinned))
      (keeps s L table op start p.instance (omega (arith, has_entry y)) c y.target p.free))

  pub place_consistent : {table : Table} {op start : ℕ} {r : PlaceAnswer} → length table.entries ≡ most_operations
      → Consistent s L table → PlaceAt s L table op start r → Consistent s L r.table
  place_consistent long c a = still_consistent long c (place_kept_or a)

  pub book_consistent : {table : Table} {o : Offer} {r : PlaceAnswer} → length table.entries ≡ most_operations
      → Consistent s L table → BookAt s L table o r → Consistent s L r.table
  book_consistent long c a = still_consistent long c (book_kept_or a)
