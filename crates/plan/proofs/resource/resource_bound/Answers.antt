use Rattle.std.proofs.Common.{ℕ, refl, ap}
use Rattle.refusal.specs.Number.{no_zero}
use Rattle.sheet.specs.Questions.{at_yes, sheet_accepted, sheet_refuses}
use Rattle.plan.specs.Resource.{bound_refused}
use Rattle.plan.proofs.resource.resource_bound.Goals as goal

pub returns-in-Err : goal.returns-in-Err
returns-in-Err c = sheet_refuses bound_refused c.in-Err.ensures (no_zero _) (ap bound_refused c.number.ensures)

pub greatest_share-value-requires : goal.greatest_share-value-requires
greatest_share-value-requires c = sheet_accepted c.in_default.ensures refl

pub returns : goal.returns
returns c = at_yes (sheet_accepted c.in_default.ensures refl) (ap (λ (n : ℕ). record { answer = 0; value = n }) c.greatest_share-value.ensures)
