use Rattle.std.proofs.Common.{refl, ap}
use Rattle.refusal.specs.Number.{no_zero}
use Rattle.sheet.specs.Questions.{accepted, refuses, goes_on}
use Rattle.verify.specs.Check.{check_refused}
use Rattle.verify.proofs.is_plan.Goals as goal

pub returns-in-Err : goal.returns-in-Err
returns-in-Err c = refuses check_refused c.in-Err.ensures (no_zero _) (ap check_refused c.number.ensures)

pub holds-requires : goal.holds-requires
holds-requires c =
    let y = accepted c.in_default.ensures refl in
    (y.sheet, y.interval)

pub returns : goal.returns
returns c = goes_on check_refused (accepted c.in_default.ensures refl) (record { number = refl; says = c.holds.ensures })
