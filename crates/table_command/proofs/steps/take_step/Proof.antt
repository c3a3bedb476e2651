-- `table_command::steps::take_step` meets its contract: each kind of step has its service.
-- Assumes nothing.
use mathlib.Core.Path.{sym, subst}
use Rattle.table_script.specs.declared.Step.{Step}
use Rattle.table_command.specs.Prints.{beside_table, StepAt, offered, booked, placed}
use borrow.Author.Rules.{rules}
use Rattle.table_command.proofs.steps.take_step.Statement.{statement}
use Rattle.table_command.proofs.steps.take_step.Tie as tie

enum_known_step : tie.Need-enum_known-step
enum_known_step c = search rules

make_offer_requires : tie.Need-make_offer-made-requires
make_offer_requires c κs = search rules

enum_known_step_2 : tie.Need-enum_known-step-in-Book-1
enum_known_step_2 c = search rules

book_requires : tie.Need-book-requires
book_requires c κs = search rules

enum_known_step_3 : tie.Need-enum_known-step-in-Place-1
enum_known_step_3 c = search rules

place_requires : tie.Need-place-requires
place_requires c κs = search rules

returns : tie.Need-returns-in-Offer
returns c =
    let a = c.args in
    subst (λ (k : Step). StepAt a.sheet a.interval a.table k (beside_table a.table c.make_offer-made.result))
    (sym c.in-Offer.is) (offered c.make_offer-made.ensures)

returns_2 : tie.Need-returns-in-Book
returns_2 c =
    let a = c.args in
    subst (λ (k : Step). StepAt a.sheet a.interval a.table k c.book.result) (sym c.in-Book.is) (booked c.book.ensures)

returns_3 : tie.Need-returns-in-Place
returns_3 c =
    let a = c.args in
    subst (λ (k : Step). StepAt a.sheet a.interval a.table k c.place.result) (sym c.in-Place.is) (placed c.place.ensures)

pub take_step_spec : {M : Type 1} → statement M
take_step_spec =
    tie.close
    (tie.spec
    enum_known_step
    make_offer_requires
    enum_known_step_2
    book_requires
    enum_known_step_3
    place_requires
    returns
    returns_2
    returns_3)
