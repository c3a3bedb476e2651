use Rattle.std.proofs.Common.{refl, ap, ◌∙◌, arith}
use Rattle.refusal.specs.Number.{no_zero}
use Rattle.sheet.specs.Questions.{at_no, at_yes}
use Rattle.placing.specs.Asking.{ready, refuses_placing, goes_on_placing, has_entry}
use Rattle.placing.specs.Answers.{refused}
use Rattle.placing.proofs.book.Goals as goal

pub returns-in-Err : goal.returns-in-Err
returns-in-Err c = refuses_placing (refused _) c.in-Err.ensures (no_zero _) (c.refuse.ensures ∙ ap (refused _) c.number.ensures)

pub returns-then-not-is_free : goal.returns-then-not-is_free
returns-then-not-is_free c =
    goes_on_placing (refused _) (ready c.in_default.ensures refl) (at_no (c.is_free.ensures.no c.if-not-is_free.true) c.refuse-then-not-is_free.ensures)

pub offset_bounds-entries-op : goal.offset_bounds-entries-op
offset_bounds-entries-op c = let h = has_entry (ready c.in_default.ensures refl) in omega arith

pub bounds-entries-op : goal.bounds-entries-op
bounds-entries-op c = has_entry (ready c.in_default.ensures refl)

pub returns : goal.returns
returns c = goes_on_placing (refused _) (ready c.in_default.ensures refl) (at_yes (c.is_free.ensures.yes c.if-not-is_free.false) refl)
