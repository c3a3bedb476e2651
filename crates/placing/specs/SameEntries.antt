-- Entries of a sheet past R, N or E change no answer of the services on a placing table: sheets that differ only there
-- get the same new table, placing, offer and booking. Assumes nothing.
use Rattle.std.specs.Prelude.{ℕ}
use Rattle.sheet.specs.declared.Sheet.{Sheet}
use Rattle.sheet.specs.Sheet.{InRange, Interval}
use Rattle.sheet.specs.Questions.{Asked, at_no, at_yes, Is}
use Rattle.sheet.specs.Entries.{SameSheet, turn, range_same, at_interval_same}
use Rattle.placing_table.specs.declared.Table.{Table}
use Rattle.placing_table.specs.Table.{Consistent, Target, Unplaced}
use Rattle.placing_table.specs.SameEntries.{target_same, consistent_same, free_same, free_back}
use Rattle.placing.specs.declared.NewTable.{NewTable}
use Rattle.placing.specs.declared.Offer.{Offer}
use Rattle.placing.specs.declared.OfferAnswer.{OfferAnswer}
use Rattle.placing.specs.declared.PlaceAnswer.{PlaceAnswer}
use Rattle.placing.specs.Answers.{new_table, NewAt, OnTable, ToPlace, IfFree, ToLowest, refused, placed_on, PlaceAt, no_offer, offering, OfferAt, IfOfferFree, BookAt}

pub new_same : {s s' : Sheet} → SameSheet s s' → {L : ℕ} {r : NewTable} → NewAt s L r → NewAt s' L r
new_same e = at_interval_same e new_table (λ _ _ p. p)

-- ---- the questions before a placing, each with what follows

module _ {A : Type 0} {s s' : Sheet} (e : SameSheet s s') (refused : ℕ → A) {L : ℕ} {table : Table} {Then Then' : A → Type 0} {a : A} where
  pub on_table_same : (InRange s → Consistent s L table → Then a → Then' a) → OnTable refused s L table Then a → OnTable refused s' L table Then' a
  on_table_same f = at_interval_same e refused at
    where
      at : InRange s → Interval s L → Asked (Consistent s L table) (Is (refused 10)) Then a → Asked (Consistent s' L table) (Is (refused 10)) Then' a
      at ok i (at_no n p) = at_no (λ c. n (consistent_same (turn e) (range_same e ok) c)) p
      at ok i (at_yes c t) = at_yes (consistent_same e ok c) (f ok c t)

module _ {A : Type 0} {s s' : Sheet} (e : SameSheet s s') (refused : ℕ → A) {L : ℕ} {table : Table} {op start : ℕ} {Then Then' : A → Type 0} {a : A} where
  to_place_same : (InRange s → Consistent s L table → Target s op start → Then a → Then' a)
      → ToPlace refused s L table op start Then a → ToPlace refused s' L table op start Then' a
  to_place_same f = on_table_same e refused at
    where
      at : InRange s → Consistent s L table → Asked (Target s op start) (Is (refused 11)) (Asked (Unplaced table op) (Is (refused 12)) Then) a
          → Asked (Target s' op start) (Is (refused 11)) (Asked (Unplaced table op) (Is (refused 12)) Then') a
      at ok c (at_no n p) = at_no (λ t. n (target_same (turn e) t)) p
      at ok c (at_yes t (at_no n p)) = at_yes (target_same e t) (at_no n p)
      at ok c (at_yes t (at_yes u y)) = at_yes (target_same e t) (at_yes u (f ok c t y))

-- ---- placing, offers, booking

module _ {A : Type 0} {s s' : Sheet} (e : SameSheet s s') (refused made : ℕ → A) {L : ℕ} {table : Table} {op start : ℕ} {a : A} where
  to_lowest_same : ToLowest refused s L table op start made a → ToLowest refused s' L table op start made a
  to_lowest_same = to_place_same e refused at
    where
      at : InRange s → Consistent s L table → Target s op start → IfFree refused s L table op start made a → IfFree refused s' L table op start made a
      at ok c t (at_no n p) = at_no (λ f. n (record { instance = f.instance; free = free_back e ok c t f.free })) p
      at ok c t (at_yes f g) = at_yes (record { instance = f.instance; free = free_same e ok c t f.free }) (record {
        instance = g.instance;
        lowest = record { free = free_same e ok c t g.lowest.free; lowest = λ v h. g.lowest.lowest v (free_back e ok c t h) };
        pinned = g.pinned;
      })

module _ {s s' : Sheet} (e : SameSheet s s') {L : ℕ} {table : Table} where
  pub place_same : {op start : ℕ} {r : PlaceAnswer} → PlaceAt s L table op start r → PlaceAt s' L table op start r
  place_same {op} {start} = to_lowest_same e (refused table) (placed_on table op start)

  pub offer_same : {op start : ℕ} {r : OfferAnswer} → OfferAt s L table op start r → OfferAt s' L table op start r
  offer_same {op} {start} = to_lowest_same e no_offer (offering op start)

  pub book_same : {o : Offer} {r : PlaceAnswer} → BookAt s L table o r → BookAt s' L table o r
  book_same {o} {r} = to_place_same e (refused table) at
    where
      at : InRange s → Consistent s L table → Target s o.operation o.start → IfOfferFree s L table o r → IfOfferFree s' L table o r
      at ok c t (at_no n p) = at_no (λ f. n (free_back e ok c t f)) p
      at ok c t (at_yes f p) = at_yes (free_same e ok c t f) p
