-- At most one answer fits an input: a new table, a placing, an offer, a booking.
-- Assumes nothing.
use Rattle.std.proofs.Common.{sym, ap, ◌∙◌}
use Rattle.std.specs.Prelude.{ℕ}
use Rattle.sheet.specs.declared.Sheet.{Sheet}
use Rattle.sheet.specs.Questions.{One, is_one, asked_one, at_interval_one}
use Rattle.placing_table.specs.declared.Table.{Table}
use Rattle.placing_table.specs.Vacancies.{lowest_one}
use Rattle.placing.specs.declared.Offer.{Offer}
use Rattle.placing.specs.Answers.{new_table, NewAt, OnTable, ToPlace, OfLowest, ToLowest, refused, placed_on, PlaceAt, no_offer, offering, OfferAt, BookAt}

pub new_unique : {s : Sheet} {L : ℕ} → One (NewAt s L)
new_unique = at_interval_one new_table (is_one (new_table 0))

-- ---- the questions before a placing

module _ {A : Type 0} (refused : ℕ → A) {s : Sheet} {L : ℕ} {table : Table} {Then : A → Type 0} where
  pub on_table_one : One Then → One (OnTable refused s L table Then)
  on_table_one f = at_interval_one refused (asked_one (is_one (refused 10)) f)

module _ {A : Type 0} (refused : ℕ → A) {s : Sheet} {L : ℕ} {table : Table} {op start : ℕ} {Then : A → Type 0} where
  pub to_place_one : One Then → One (ToPlace refused s L table op start Then)
  to_place_one f = on_table_one refused (asked_one (is_one (refused 11)) (asked_one (is_one (refused 12)) f))

-- ---- a placing, an offer, a booking

module _ {A : Type 0} (refused : ℕ → A) {s : Sheet} {L : ℕ} {table : Table} {op start : ℕ} (made : ℕ → A) where
  of_lowest_one : One (OfLowest s L table op start made)
  of_lowest_one a b p q = p.pinned ∙ ap made (lowest_one p.lowest q.lowest) ∙ sym q.pinned

  to_lowest_one : One (ToLowest refused s L table op start made)
  to_lowest_one = to_place_one refused (asked_one (is_one (refused 13)) of_lowest_one)

pub place_unique : {s : Sheet} {L : ℕ} {table : Table} {op start : ℕ} → One (PlaceAt s L table op start)
place_unique {table = table} {op} {start} = to_lowest_one (refused table) (placed_on table op start)

pub offer_unique : {s : Sheet} {L : ℕ} {table : Table} {op start : ℕ} → One (OfferAt s L table op start)
offer_unique {op = op} {start} = to_lowest_one no_offer (offering op start)

pub book_unique : {s : Sheet} {L : ℕ} {table : Table} {o : Offer} → One (BookAt s L table o)
book_unique {table = table} = to_place_one (refused table) (asked_one (is_one (refused table 17)) (is_one _))
