-- At a sheet and an interval that are accepted each number that a step answers, and each of a consistent table, has at
-- most three digits; and the steps keep a table consistent. Assumes nothing.
use Rattle.std.specs.Prelude.{◌≡◌, refl, Bool, true, false, ℕ, ◌≤◌, ◌<◌, length}
use Rattle.std.proofs.Common.{sym, ap, subst, ◌∙◌, ⊎_elim, arith, length-set}
use Rattle.std.proofs.Math.Decide.{dec_lt}
use Rattle.sizes.specs.Sizes.{most_operations}
use Rattle.text.specs.Sizes.{three_digits}
use Rattle.sheet.specs.declared.Sheet.{Sheet}
use Rattle.sheet.specs.Sheet.{type_of, InRange}
use Rattle.sheet.specs.Facts.{horizon_most, op_instances_most}
use Rattle.sheet.specs.Questions.{at_no, at_yes, AskedAt, Accepted}
use Rattle.plan.specs.Rules.{InstanceAllowed}
use Rattle.placing_table.specs.declared.Table.{Table}
use Rattle.placing_table.specs.Table.{placement_at, Consistent}
use Rattle.placing.specs.declared.Offer.{Offer}
use Rattle.placing.specs.declared.OfferAnswer.{OfferAnswer}
use Rattle.placing.specs.declared.PlaceAnswer.{PlaceAnswer}
use Rattle.placing.specs.Answers.{AskedToPlace, IfFree, refused, placed_on, no_offer, offering, IfOfferFree}
use Rattle.placing.specs.Asking.{Placeable, Split, stopped, went, split, KeptOrPlaced, place_kept_or, book_kept_or}
use Rattle.placing.specs.Keeps.{place_consistent, book_consistent}
use Rattle.table_script.specs.declared.Step.{Step}
use Rattle.table_command.specs.Prints.{beside_table, StepAt, offered, booked, placed}
use Rattle.table_command.specs.Widths.{SmallAnswer, SmallEntry, SmallTable}

allowed_small : {s : Sheet} {i u : ℕ} → InRange s → i < s.op_count → InstanceAllowed s i u → u ≤ three_digits
allowed_small {s} {i} {u} ok n a = at (dec_lt 0 (type_of s i).instances)
  where
    at : Dec (0 < (type_of s i).instances) → u ≤ three_digits
    at (yes l) = omega (arith, a.limited l, op_instances_most ok i n)
    at (no l) = omega (arith, a.unlimited (omega arith))

-- ---- a table

pub table_small : {s : Sheet} {L : ℕ} {table : Table} → InRange s → Consistent s L table → SmallTable table
table_small {s} {L} {table} ok c i = at (placement_at table i).placed refl
  where
    at : (b : Bool) → (placement_at table i).placed ≡ b → SmallEntry (placement_at table i)
    at true e =
        let a = c.entries i in
        record { start = omega (arith, a.start e, horizon_most ok); instance = allowed_small ok (a.within e) (a.instance e) }
    at false e = let z = (c.entries i).empty e in record { start = omega (arith, z.0); instance = omega (arith, z.1) }

-- ---- the questions about the sheet and the interval

pub interval_small : {s : Sheet} {L n : ℕ} → InRange s → AskedAt s L n → n ≤ three_digits
interval_small ok (at_no x e) = absurd (x ok)
interval_small ok (at_yes _ (at_no x e)) = omega arith
interval_small ok (at_yes _ (at_yes _ e)) = omega arith

-- ---- a step

module _ {s : Sheet} {L : ℕ} (y : Accepted s L) where
  asked_small : {table : Table} {op start n : ℕ} → AskedToPlace s L table op start n → n ≤ three_digits
  asked_small (at_no x e) = absurd (x y.sheet)
  asked_small (at_yes _ (at_no x e)) = absurd (x y.interval)
  asked_small (at_yes _ (at_yes _ (at_no _ e))) = omega arith
  asked_small (at_yes _ (at_yes _ (at_yes _ (at_no _ e)))) = omega arith
  asked_small (at_yes _ (at_yes _ (at_yes _ (at_yes _ (at_no _ e))))) = omega arith
  asked_small (at_yes _ (at_yes _ (at_yes _ (at_yes _ (at_yes _ e))))) = omega arith

  -- a refusal, and an instance that the operation may have
  refused_small : {table : Table} {a : PlaceAnswer} {n : ℕ} → n ≤ three_digits → a ≡ refused table n → SmallAnswer a
  refused_small h e = subst SmallAnswer (sym e) (record { answer = h; instance = omega arith })

  placed_small : {table : Table} {op start u : ℕ} {a : PlaceAnswer} → Placeable s L table op start → InstanceAllowed s op u → a ≡ placed_on table op start u → SmallAnswer a
  placed_small p i e = subst SmallAnswer (sym e) (record { answer = omega arith; instance = allowed_small y.sheet p.target.operation i })

  module _ {table : Table} where
    offer_small : {op start : ℕ} {o : OfferAnswer} → Split no_offer s L table op start (IfFree no_offer s L table op start (offering op start)) o
        → SmallAnswer (beside_table table o)
    offer_small (stopped r e) = refused_small (asked_small r.asked) (ap (beside_table table) e)
    offer_small (went p (at_no _ e)) = refused_small (omega arith) (ap (beside_table table) e)
    offer_small {op} {start} (went p (at_yes _ g)) =
        subst (λ (x : OfferAnswer). SmallAnswer (beside_table table x)) (sym g.pinned)
        (record { answer = omega arith; instance = allowed_small y.sheet p.target.operation g.lowest.free.allowed })

    book_small : {o : Offer} {a : PlaceAnswer} → Split (refused table) s L table o.operation o.start (IfOfferFree s L table o) a → SmallAnswer a
    book_small (stopped r e) = refused_small (asked_small r.asked) e
    book_small (went p (at_no _ e)) = refused_small (omega arith) e
    book_small (went p (at_yes f e)) = placed_small p f.allowed e

    place_small : {op start : ℕ} {a : PlaceAnswer} → Split (refused table) s L table op start (IfFree (refused table) s L table op start (placed_on table op start)) a → SmallAnswer a
    place_small (stopped r e) = refused_small (asked_small r.asked) e
    place_small (went p (at_no _ e)) = refused_small (omega arith) e
    place_small (went p (at_yes _ g)) = placed_small p g.lowest.free.allowed g.pinned

    pub step_small : {st : Step} {a : PlaceAnswer} → StepAt s L table st a → SmallAnswer a
    step_small (offered p) = offer_small (split no_offer p)
    step_small (booked p) = book_small (split (refused table) p)
    step_small (placed p) = place_small (split (refused table) p)

-- ---- the table after a step

module _ {s : Sheet} {L : ℕ} {table : Table} where
  still_long : {op start : ℕ} {a : PlaceAnswer} → length table.entries ≡ most_operations → KeptOrPlaced s L table op start a → length a.table.entries ≡ most_operations
  still_long l = ⊎_elim (λ e. ap (λ (t : Table). length t.entries) e ∙ l)
      (λ p. ap (λ (x : PlaceAnswer). length x.table.entries) p.pinned ∙ length-set table.entries _ _ ∙ l)

  pub step_kept : {st : Step} {a : PlaceAnswer} → length table.entries ≡ most_operations → Consistent s L table → StepAt s L table st a
      → Consistent s L a.table × (length a.table.entries ≡ most_operations)
  step_kept l c (offered p) = (c, l)
  step_kept l c (booked p) = (book_consistent l c p, still_long l (book_kept_or p))
  step_kept l c (placed p) = (place_consistent l c p, still_long l (place_kept_or p))
