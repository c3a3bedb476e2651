-- What the search for the first plan answers. Assumes nothing.
use Rattle.std.specs.Prelude.{true, false, List, ℕ, Bool, Option, None, Some}
use Rattle.laws.specs.Entry.{zeros}
use Rattle.domain.specs.Domain.{FirstIn}

-- the first plan in the domain, or that there is none
abbrev pub FirstPlan : ((ℕ → ℕ) → Type 0) → ℕ → List (List Bool) → Option (List ℕ) → Type 0
FirstPlan Plan n ok None = FirstIn Plan n ok false zeros
FirstPlan Plan n ok (Some x) = FirstIn Plan n ok true x
