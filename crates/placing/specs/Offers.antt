-- An offer that is booked on the table it came from is the placing, whole; and where the offer is refused so is the
-- placing, by the same number. Assumes nothing.
use Rattle.std.specs.Prelude.{◌≡◌, ℕ}
use Rattle.std.proofs.Common.{sym, ap, subst, ◌∙◌, arith}
use Rattle.sheet.specs.declared.Sheet.{Sheet}
use Rattle.sheet.specs.Questions.{at_no, at_yes}
use Rattle.placing_table.specs.declared.Table.{Table}
use Rattle.placing_table.specs.Table.{SomeFree}
use Rattle.placing.specs.declared.OfferAnswer.{OfferAnswer}
use Rattle.placing.specs.declared.PlaceAnswer.{PlaceAnswer}
use Rattle.placing.specs.Answers.{OfLowest, IfFree, refused, placed_on, PlaceAt, no_offer, offering, OfferAt, IfOfferFree, BookAt}
use Rattle.placing.specs.Asking.{Split, stopped, went, split, refuses_placing, goes_on_placing, then_placing}
use Rattle.placing.specs.Unique.{place_unique}

abbrev number : OfferAnswer → ℕ
number o = o.answer

module _ {s : Sheet} {L : ℕ} {table : Table} {op start : ℕ} where
  pub offer_refused : {o : OfferAnswer} → OfferAt s L table op start o → (o.answer ≡ 0 → ⊥) → PlaceAt s L table op start (refused table o.answer)
  offer_refused {o} a z = at (split no_offer a)
    where
      at : Split no_offer s L table op start (IfFree no_offer s L table op start (offering op start)) o → PlaceAt s L table op start (refused table o.answer)
      at (stopped r e) = refuses_placing (refused table) r.asked r.nonzero (ap (λ (x : OfferAnswer). refused table x.answer) e)
      at (went y (at_no n e)) = goes_on_placing (refused table) y (at_no n (ap (λ (x : OfferAnswer). refused table x.answer) e))
      at (went y (at_yes f g)) = absurd (z (ap number g.pinned))

  -- the lowest free instance was offered; its booking is what placing gives
  booked : {b : PlaceAnswer} {o : OfferAnswer} → SomeFree s L table op start → (g : OfLowest s L table op start (offering op start) o)
      → IfOfferFree s L table (offering op start g.instance).offer b → IfFree (refused table) s L table op start (placed_on table op start) b
  booked f g (at_no n _) = absurd (n g.lowest.free)
  booked f g (at_yes _ e) = at_yes f (record { instance = g.instance; lowest = g.lowest; pinned = e })

  pub offer_booked : {o : OfferAnswer} → OfferAt s L table op start o → o.answer ≡ 0 → {b : PlaceAnswer} → BookAt s L table o.offer b → PlaceAt s L table op start b
  offer_booked {o} a z {b} w = at (split no_offer a)
    where
      at : Split no_offer s L table op start (IfFree no_offer s L table op start (offering op start)) o → PlaceAt s L table op start b
      at (stopped r e) = absurd (r.nonzero (sym (ap number e) ∙ z))
      at (went y (at_no n e)) = absurd (omega (arith, ap number e))
      at (went y (at_yes f g)) =
          let x : BookAt s L table (offering op start g.instance).offer b = subst (λ (q : OfferAnswer). BookAt s L table q.offer b) g.pinned w in
          goes_on_placing (refused table) y (booked f g (then_placing (refused table) y x))

  -- so the answers are equal, instance, table and all
  pub booked_as_placed : {o : OfferAnswer} {b p : PlaceAnswer} → OfferAt s L table op start o → o.answer ≡ 0
      → BookAt s L table o.offer b → PlaceAt s L table op start p → b ≡ p
  booked_as_placed {o} {b} {p} a z w q = place_unique b p (offer_booked a z w) q
