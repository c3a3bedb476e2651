-- What the questions before a placing tell, once they were asked: 0 that all got a yes, another number that it is the
-- refusal of each service that asks them. And what the answers of placing and booking tell of the table.
-- Assumes nothing.
use Rattle.std.specs.Prelude.{◌≡◌, refl, ◌⊎◌, ℕ, ◌<◌}
use Rattle.std.proofs.Common.{sym, ap, ◌∙◌, inl, inr, arith}
use Rattle.sizes.specs.Sizes.{most_operations}
use Rattle.sheet.specs.declared.Sheet.{Sheet}
use Rattle.sheet.specs.Facts.{ops_most}
use Rattle.sheet.specs.AnswerLaws.{sheet_out}
use Rattle.sheet.specs.Questions.{Asked, Is, is_one, at_no, at_yes, AskedAt, Accepted}
use Rattle.placing_table.specs.declared.Table.{Table}
use Rattle.placing_table.specs.Table.{Consistent, Target, Unplaced, Free}
use Rattle.placing.specs.declared.PlaceAnswer.{PlaceAnswer}
use Rattle.placing.specs.declared.Offer.{Offer}
use Rattle.placing.specs.Answers.{new_table, NewAt, ToPlace, AskedToPlace, refused, placed_on, PlaceAt, BookAt}
use Rattle.placing.specs.Unique.{to_place_one}

-- a new table answers what the sheet's questions and 4 answer
pub new_asked : {s : Sheet} {L n : ℕ} → AskedAt s L n → NewAt s L (new_table n)
new_asked (at_no x e) = at_no x (ap new_table e)
new_asked (at_yes r (at_no x e)) = at_yes r (at_no x (ap new_table e))
new_asked (at_yes r (at_yes i e)) = at_yes r (at_yes i (ap new_table e))

-- the questions before a placing got a yes
pub record Placeable (s : Sheet) (L : ℕ) (table : Table) (op start : ℕ) : Type 0 where
  pub accepted : Accepted s L
  pub consistent : Consistent s L table
  pub target : Target s op start
  pub unplaced : Unplaced table op

-- one of them got a no: n is the refusal's number
pub record Refused (s : Sheet) (L : ℕ) (table : Table) (op start n : ℕ) : Type 0 where
  pub asked : AskedToPlace s L table op start n
  pub nonzero : n ≡ 0 → ⊥

-- the answer of a service that asks them first: the refusal, or what follows
pub data Split {A : Type 0} (refused : ℕ → A) (s : Sheet) (L : ℕ) (table : Table) (op start : ℕ) (Then : A → Type 0) (a : A) : Type 0 where
  stopped : {n : ℕ} → Refused s L table op start n → a ≡ refused n → Split refused s L table op start Then a
  went : Placeable s L table op start → Then a → Split refused s L table op start Then a

module _ {s : Sheet} {L : ℕ} {table : Table} {op start : ℕ} where
  pub refuses_placing : {A : Type 0} (refused : ℕ → A) {Then : A → Type 0} {a : A} {n : ℕ}
      → AskedToPlace s L table op start n → (n ≡ 0 → ⊥) → a ≡ refused n → ToPlace refused s L table op start Then a
  refuses_placing refused (at_no x e) z q = at_no x (q ∙ ap refused e)
  refuses_placing refused (at_yes r (at_no x e)) z q = at_yes r (at_no x (q ∙ ap refused e))
  refuses_placing refused (at_yes r (at_yes i (at_no x e))) z q = at_yes r (at_yes i (at_no x (q ∙ ap refused e)))
  refuses_placing refused (at_yes r (at_yes i (at_yes c (at_no x e)))) z q = at_yes r (at_yes i (at_yes c (at_no x (q ∙ ap refused e))))
  refuses_placing refused (at_yes r (at_yes i (at_yes c (at_yes t (at_no x e))))) z q =
      at_yes r (at_yes i (at_yes c (at_yes t (at_no x (q ∙ ap refused e)))))
  refuses_placing refused (at_yes r (at_yes i (at_yes c (at_yes t (at_yes f e))))) z q = absurd (z e)

  pub goes_on_placing : {A : Type 0} (refused : ℕ → A) {Then : A → Type 0} {a : A}
      → Placeable s L table op start → Then a → ToPlace refused s L table op start Then a
  goes_on_placing refused y t = at_yes y.accepted.sheet (at_yes y.accepted.interval (at_yes y.consistent (at_yes y.target (at_yes y.unplaced t))))

  -- the operation has an entry in the table
  pub has_entry : Placeable s L table op start → op < most_operations
  has_entry y = omega (arith, y.target.operation, ops_most y.accepted.sheet)

  pub split : {A : Type 0} (refused : ℕ → A) {Then : A → Type 0} {a : A}
      → ToPlace refused s L table op start Then a → Split refused s L table op start Then a
  split refused (at_no x e) = stopped (record { asked = at_no x refl; nonzero = sheet_out s x }) e
  split refused (at_yes r (at_no x e)) = stopped (record { asked = at_yes r (at_no x refl); nonzero = λ z. omega arith }) e
  split refused (at_yes r (at_yes i (at_no x e))) = stopped (record { asked = at_yes r (at_yes i (at_no x refl)); nonzero = λ z. omega arith }) e
  split refused (at_yes r (at_yes i (at_yes c (at_no x e)))) =
      stopped (record { asked = at_yes r (at_yes i (at_yes c (at_no x refl))); nonzero = λ z. omega arith }) e
  split refused (at_yes r (at_yes i (at_yes c (at_yes t (at_no x e))))) =
      stopped (record { asked = at_yes r (at_yes i (at_yes c (at_yes t (at_no x refl)))); nonzero = λ z. omega arith }) e
  split refused (at_yes r (at_yes i (at_yes c (at_yes t (at_yes f y))))) =
      went (record { accepted = record { sheet = r; interval = i }; consistent = c; target = t; unplaced = f }) y

  -- the number 0 tells that all got a yes
  pub ready : {n : ℕ} → AskedToPlace s L table op start n → n ≡ 0 → Placeable s L table op start
  ready {n} a z = at (split (λ k. k) a)
    where
      at : Split (λ k. k) s L table op start (Is 0) n → Placeable s L table op start
      at (stopped r e) = absurd (r.nonzero (sym e ∙ z))
      at (went y _) = y

  -- where all got a yes, what follows answers
  pub then_placing : {A : Type 0} (refused : ℕ → A) {Then : A → Type 0} {a : A} → Placeable s L table op start → ToPlace refused s L table op start Then a → Then a
  then_placing refused {Then} {a} y w = at (split refused w)
    where
      at : Split refused s L table op start Then a → Then a
      at (stopped r e) = absurd (r.nonzero (to_place_one (λ n. n) (is_one 0) _ _ r.asked (goes_on_placing (λ n. n) y refl)))
      at (went _ t) = t

-- ---- what becomes of the table

-- the operation is placed on an instance that was free
pub record PlacedFree (s : Sheet) (L : ℕ) (table : Table) (op start : ℕ) (r : PlaceAnswer) : Type 0 where
  pub placeable : Placeable s L table op start
  pub instance : ℕ
  pub free : Free s L table op start instance
  pub pinned : r ≡ placed_on table op start instance

-- that, or the table is the one that came
abbrev pub KeptOrPlaced : Sheet → ℕ → Table → ℕ → ℕ → PlaceAnswer → Type 0
KeptOrPlaced s L table op start r = (r.table ≡ table) ⊎ PlacedFree s L table op start r

kept : {table : Table} {r : PlaceAnswer} {n : ℕ} → r ≡ refused table n → r.table ≡ table
kept e = ap (λ (x : PlaceAnswer). x.table) e

-- of a service that asks one question more
module _ {s : Sheet} {L : ℕ} {table : Table} {op start : ℕ} {r : PlaceAnswer} {Q : Type 0} {m : ℕ} {Then : PlaceAnswer → Type 0} where
  kept_or : (Placeable s L table op start → Q → Then r → PlacedFree s L table op start r)
      → Split (refused table) s L table op start (Asked Q (Is (refused table m)) Then) r → KeptOrPlaced s L table op start r
  kept_or f (stopped _ e) = inl (kept e)
  kept_or f (went _ (at_no _ e)) = inl (kept e)
  kept_or f (went y (at_yes q t)) = inr (f y q t)

pub place_kept_or : {s : Sheet} {L : ℕ} {table : Table} {op start : ℕ} {r : PlaceAnswer} → PlaceAt s L table op start r → KeptOrPlaced s L table op start r
place_kept_or {table = table} a =
    kept_or (λ y _ g. record { placeable = y; instance = g.instance; free = g.lowest.free; pinned = g.pinned })
    (split (refused table) a)

pub book_kept_or : {s : Sheet} {L : ℕ} {table : Table} {o : Offer} {r : PlaceAnswer} → BookAt s L table o r → KeptOrPlaced s L table o.operation o.start r
book_kept_or {table = table} {o} a =
    kept_or (λ y q e. record { placeable = y; instance = o.instance; free = q; pinned = e })
    (split (refused table) a)
