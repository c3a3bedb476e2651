-- A new placing table, placing an operation, an offer and its booking: what each answer says. The questions come in
-- their order; each answer pins the whole result.
use Rattle.std.specs.Prelude.{ℕ, ◌≡◌}
use Rattle.sheet.specs.declared.Sheet.{Sheet}
use Rattle.sheet.specs.Questions.{Asked, Is, AtInterval}
use Rattle.placing_table.specs.declared.Table.{Table}
use Rattle.placing_table.specs.Table.{empty_table, Consistent, Target, Unplaced, Free, SomeFree, LowestFree, placing}
use Rattle.placing.specs.declared.NewTable.{NewTable}
use Rattle.placing.specs.declared.PlaceAnswer.{PlaceAnswer}
use Rattle.placing.specs.declared.Offer.{Offer}
use Rattle.placing.specs.declared.OfferAnswer.{OfferAnswer}
use Rattle.placing.specs.declared.Outcome.{Outcome}

-- ---- a new table

-- in a new table nothing is placed; with a refusal too
abbrev pub new_table : ℕ → NewTable
new_table n = record { answer = n; table = empty_table }

-- the service "new placing table" (modulo reservation table): the sheet's questions and 4
abbrev pub NewAt : Sheet → ℕ → NewTable → Type 0
NewAt s L = AtInterval new_table s L (Is (new_table 0))

-- ---- what a service on a placing table asks first; `refused` makes an answer of a refusal's number

-- the sheet's questions, 4 and 10, then the rest
abbrev pub OnTable : {A : Type 0} → (ℕ → A) → Sheet → ℕ → Table → (A → Type 0) → A → Type 0
OnTable refused s L table Then = AtInterval refused s L (Asked (Consistent s L table) (Is (refused 10)) Then)

-- those, 11 and 12, then the rest
abbrev pub ToPlace : {A : Type 0} → (ℕ → A) → Sheet → ℕ → Table → ℕ → ℕ → (A → Type 0) → A → Type 0
ToPlace refused s L table op start Then =
    OnTable refused s L table (Asked (Target s op start) (Is (refused 11)) (Asked (Unplaced table op) (Is (refused 12)) Then))

-- the number that these questions answer: 0 where all get a yes
abbrev pub AskedToPlace : Sheet → ℕ → Table → ℕ → ℕ → ℕ → Type 0
AskedToPlace s L table op start = ToPlace (λ (n : ℕ). n) s L table op start (Is 0)

-- what is made of the lowest free instance
pub record OfLowest {A : Type 0} (s : Sheet) (L : ℕ) (table : Table) (op start : ℕ) (made : ℕ → A) (a : A) : Type 0 where
  pub instance : ℕ
  pub lowest : LowestFree s L table op start instance
  pub pinned : a ≡ made instance

-- question 13, then that
abbrev pub IfFree : {A : Type 0} → (ℕ → A) → Sheet → ℕ → Table → ℕ → ℕ → (ℕ → A) → A → Type 0
IfFree refused s L table op start made = Asked (SomeFree s L table op start) (Is (refused 13)) (OfLowest s L table op start made)

-- all of these questions, then that
abbrev pub ToLowest : {A : Type 0} → (ℕ → A) → Sheet → ℕ → Table → ℕ → ℕ → (ℕ → A) → A → Type 0
ToLowest refused s L table op start made = ToPlace refused s L table op start (IfFree refused s L table op start made)

-- ---- placing

-- with a refusal the table is the one that came, and the instance is 0
abbrev pub refused : Table → ℕ → PlaceAnswer
refused table n = record { answer = n; instance = 0; table = table }

-- 0 with the instance, and the table with the operation placed on it
abbrev pub placed_on : Table → ℕ → ℕ → ℕ → PlaceAnswer
placed_on table op start u = record { answer = 0; instance = u; table = placing table op start u }

-- the service "placing": the sheet's questions, 4, and 10 to 13, then the operation on the lowest free instance
abbrev pub PlaceAt : Sheet → ℕ → Table → ℕ → ℕ → PlaceAnswer → Type 0
PlaceAt s L table op start = ToLowest (refused table) s L table op start (placed_on table op start)

-- the answer of a placing in a table that the caller keeps, with that table afterwards
abbrev pub whole : Outcome → Table → PlaceAnswer
whole r table = record { answer = r.answer; instance = r.instance; table = table }

-- ---- an offer, and booking it

-- with a refusal every number of an offer is 0
abbrev pub no_offer : ℕ → OfferAnswer
no_offer n = record { answer = n; offer = record { operation = 0; start = 0; instance = 0 } }

-- 0 with operation, start and instance
abbrev pub offering : ℕ → ℕ → ℕ → OfferAnswer
offering op start u = record { answer = 0; offer = record { operation = op; start = start; instance = u } }

-- the service "offer": what placing asks, then the lowest free instance is named. Nothing is altered: no table comes
-- back.
abbrev pub OfferAt : Sheet → ℕ → Table → ℕ → ℕ → OfferAnswer → Type 0
OfferAt s L table op start = ToLowest no_offer s L table op start (offering op start)

-- question 17: the offered instance is in range and free in every slot that the operation would hold, whether it is the
-- lowest or not; a limited operation has K at most L
abbrev pub OfferFree : Sheet → ℕ → Table → Offer → Type 0
OfferFree s L table o = Free s L table o.operation o.start o.instance

-- that question, then the operation on the offered instance
abbrev pub IfOfferFree : Sheet → ℕ → Table → Offer → PlaceAnswer → Type 0
IfOfferFree s L table o = Asked (OfferFree s L table o) (Is (refused table 17)) (Is (placed_on table o.operation o.start o.instance))

-- the service "book an offer": the sheet's questions, 4, 10 to 12 and 17, then the operation on the offered instance
abbrev pub BookAt : Sheet → ℕ → Table → Offer → PlaceAnswer → Type 0
BookAt s L table o = ToPlace (refused table) s L table o.operation o.start (IfOfferFree s L table o)
