-- `placing::place` meets its contract: it offers and books, by the laws of `Offers`.
-- Assumes nothing.
use mathlib.Core.Path.{sym, subst}
use borrow.Author.Rules.{rules}
use Rattle.placing.specs.Offers.{offer_refused, offer_booked}
use Rattle.placing.specs.Answers.{PlaceAt}
use Rattle.placing.proofs.place.Statement.{statement}
use Rattle.placing.proofs.place.Tie as tie

make_offer_requires : tie.Need-make_offer-made-requires
make_offer_requires c κs = search rules

refuse_requires : tie.Need-refuse-requires
refuse_requires c κs = search rules

returns : tie.Need-returns-then-made-ne0
returns c =
    subst (PlaceAt _ _ _ _ _) (sym c.refuse.ensures) (offer_refused c.make_offer-made.ensures c.if-made-ne0.true)

book_requires : tie.Need-book-requires
book_requires c κs = search rules

returns_2 : tie.Need-returns
returns_2 c =
    offer_booked c.make_offer-made.ensures c.if-made-ne0.false c.book.ensures

pub place_spec : {M : Type 1} → statement M
place_spec = tie.close (tie.spec make_offer_requires refuse_requires returns book_requires returns_2)
