-- Laws of the parts of the search. Assumes nothing.
use Rattle.std.specs.Prelude.{◌≡◌, Bool, true, false, List, ℕ, ◌<◌, Option, None, Some}
use Rattle.std.proofs.Common.{arith}
use Rattle.laws.specs.Entry.{vec}
use Rattle.domain.specs.Domain.{Keeps, Solved}
use Rattle.domain.specs.Split.{LeastStarts, pinned_none, solved_wider}
use Rattle.search_steps.specs.Steps.{Started, OneEach, Settled}

module _ {n : ℕ} {d : List (List Bool)} {x : List ℕ} {b : Bool} (z : LeastStarts n d x) (w : Started n x b) (full : b ≡ true) where
  -- each operation has one start, and those are no plan
  pub all_pinned : (Plan : (ℕ → ℕ) → Type 0) → ((s t : ℕ → ℕ) → ((i : ℕ) → i < n → s i ≡ t i) → Plan s → Plan t) → {y : List ℕ} → OneEach d x n → (Plan (vec x) → ⊥) → Solved Plan n d false y
  all_pinned Plan local g bad = pinned_none Plan n z local (λ i l t h y. let q = g i l t h y in omega (arith, w.yes full i l, h)) bad

module _ (Plan : (ℕ → ℕ) → Type 0) (n : ℕ) {b a : List (List Bool)} (k : Keeps Plan n b a) where
  -- an answer for the narrowed domain is one for the domain
  pub settled_wider : (r : Option (List ℕ)) → Settled Plan n a r → Settled Plan n b r
  settled_wider None s = solved_wider Plan n k s
  settled_wider (Some x) s = solved_wider Plan n k s
