-- What the parts of the search answer. Assumes nothing.
use Rattle.std.specs.Prelude.{◌≡◌, Bool, true, false, ◌≢◌, List, ℕ, ◌%◌, ◌≤◌, ◌<◌, Option, None, Some, is_none, Result, Ok, Err}
use Rattle.sizes.specs.Sizes.{most_starts}
use Rattle.laws.specs.Entry.{vec, zeros}
use Rattle.domain.specs.Domain.{has, row_of, In, Solved}
use Rattle.domain.specs.Split.{Splits}
use Rattle.task.specs.declared.Task.{Task}
use Rattle.task.specs.Plan.{PlanOf}
use Rattle.search_steps.specs.declared.Over.{Over}
use Rattle.search_steps.specs.declared.view.View.{View}
use Rattle.search_steps.specs.declared.view.View.TheVariants.{Answered, Split}

-- r tells whether each of n operations has a start
pub record Started (n : ℕ) (x : List ℕ) (r : Bool) : Type 0 where
  pub yes : r ≡ true → (i : ℕ) → i < n → vec x i < most_starts
  pub no : r ≡ false → (i : ℕ) × (i < n) × (most_starts ≤ vec x i)

-- operation i has two starts
abbrev pub Two : List (List Bool) → List ℕ → ℕ → Type 0
Two d x i = (t : ℕ) × (t < most_starts) × (has (row_of d i) t ≡ true) × (t % most_starts ≢ vec x i % most_starts)

-- no operation below r has two starts
abbrev pub OneEach : List (List Bool) → List ℕ → ℕ → Type 0
OneEach d x r = (i : ℕ) → i < r → (t : ℕ) → t < most_starts → has (row_of d i) t ≡ true → t % most_starts ≡ vec x i % most_starts

-- the first operation with two starts, or none
abbrev pub Loose : ℕ → List (List Bool) → List ℕ → Option ℕ → Type 0
Loose n d x None = OneEach d x n
Loose n d x (Some i) = (i < n) × Two d x i × OneEach d x i

-- an answer: a plan in the domain, or that there is none
abbrev pub Settled : ((ℕ → ℕ) → Type 0) → ℕ → List (List Bool) → Option (List ℕ) → Type 0
Settled Plan n d None = Solved Plan n d false zeros
Settled Plan n d (Some x) = Solved Plan n d true x

-- an answer for the domain, or an operation to split
abbrev pub Looked : ((ℕ → ℕ) → Type 0) → ℕ → List (List Bool) → View → Type 0
Looked Plan n d (Answered r) = Settled Plan n d r
Looked Plan n d (Split op modulus) = Splits n d op modulus

-- what a search answers that may be bounded: only then may it be over, and if it is not over, its answer is right
abbrev pub Budgeted : ((ℕ → ℕ) → Type 0) → ℕ → List (List Bool) → Bool → Result (Option (List ℕ)) Over → Type 0
Budgeted Plan n ok bounded (Ok r) = Settled Plan n ok r
Budgeted Plan n ok bounded (Err over) = bounded ≡ true

-- whether a search came to its end and found none
abbrev pub denied_by : Result (Option (List ℕ)) Over → Bool
denied_by (Ok r) = is_none r
denied_by (Err over) = false

-- r tells that the task has no plan at all
pub record Denied (p : Task) (r : Bool) : Type 0 where
  pub denied : r ≡ true → (t : ℕ → ℕ) → PlanOf p t → ⊥

-- r tells that the task has no plan in the domain
pub record Emptied (p : Task) (d : List (List Bool)) (r : Bool) : Type 0 where
  pub none : r ≡ true → (t : ℕ → ℕ) → PlanOf p t → In p.ops d t → ⊥
