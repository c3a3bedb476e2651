-- A line with one of the three keys is that key's step, of its numbers in their order.
use Rattle.std.proofs.Common.{sym}
use Rattle.table_script.specs.Steps.{offer_step, book_step, place_step}
use Rattle.table_script.proofs.read_step.Goals as goal

pub returns-in-Some-clause-result_value : goal.returns-in-Some-clause-result_value
returns-in-Some-clause-result_value c = sym (offer_step _ _ _ _ (sym c.in-Some.ensures.result_value))

pub returns-in-Some-read_plain-clause-result_value : goal.returns-in-Some-read_plain-clause-result_value
returns-in-Some-read_plain-clause-result_value c =
    let no_offer = sym c.in_default.ensures.result_value in
    sym (book_step _ no_offer _ _ _ _ (sym c.in-Some-read_plain.ensures.result_value))

pub returns-clause-result_value : goal.returns-clause-result_value
returns-clause-result_value c =
    let no_offer = sym c.in_default.ensures.result_value in
    let no_book = sym c.in_default-read_plain.ensures.result_value in
    sym (place_step _ no_offer no_book _ _ _ (sym c.in_ok-place.ensures.result_value))
