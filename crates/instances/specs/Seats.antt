-- Instances for the operations of a type: those that hold a slot in common have different ones.
use Rattle.std.specs.Prelude.{◌≡◌, Bool, ◌⊎◌, ◌≢◌, List, ℕ, ◌<◌}
use Rattle.sizes.specs.Sizes.{most_types}
use Rattle.laws.specs.Says.{Says}
use Rattle.domain.specs.Domain.{has, row_of}
use Rattle.held_slots.specs.Seated.{Clash, SeatedIn}

-- a row and the table of those that clash
pub record ClashRow (n : ℕ) (ty t : ℕ → ℕ) (l k r i : ℕ) (row : List Bool) : Type 0 where
  pub each : (j : ℕ) → j < n → Says (Clash ty t l k r i j) (has row j)

pub record ClashTable (n : ℕ) (ty t : ℕ → ℕ) (l k r : ℕ) (c : List (List Bool)) : Type 0 where
  pub row : (i : ℕ) → i < n → ClashRow n ty t l k r i (row_of c i)

-- the starts have instances in type r
abbrev pub Seatable : ℕ → (ℕ → ℕ) → ℕ → ℕ → ℕ → ℕ → (ℕ → ℕ) → Type 0
Seatable n ty l a k r t = (u : ℕ → ℕ) × SeatedIn n ty l a k r t u

-- w comes before u among the operations of type r, or is the same there
pub record FirstFor (n : ℕ) (ty : ℕ → ℕ) (r : ℕ) (w u : ℕ → ℕ) : Type 0 where
  pub case : ((i : ℕ) → i < n → ty i ≡ r → w i ≡ u i)
      ⊎ ((m : ℕ) × (m < n) × (ty m ≡ r) × (w m < u m) × ((i : ℕ) → i < m → ty i ≡ r → w i ≡ u i))

-- the first instances for the starts in type r, if they have any
pub record FirstSeats (n : ℕ) (ty : ℕ → ℕ) (l a k r : ℕ) (t w : ℕ → ℕ) : Type 0 where
  pub seated : (u : ℕ → ℕ) → SeatedIn n ty l a k r t u → SeatedIn n ty l a k r t w
  pub first : (u : ℕ → ℕ) → SeatedIn n ty l a k r t u → FirstFor n ty r w u

-- w in type r, and u elsewhere
pub record Merge (n : ℕ) (ty : ℕ → ℕ) (r : ℕ) (u w out : ℕ → ℕ) : Type 0 where
  pub inside : (i : ℕ) → i < n → ty i ≡ r → out i ≡ w i
  pub outside : (i : ℕ) → i < n → ty i ≢ r → out i ≡ u i

-- u with the first instances in type r, if it is limited
pub record WithType (n : ℕ) (ty : ℕ → ℕ) (l a k r : ℕ) (t u out : ℕ → ℕ) : Type 0 where
  pub limited : 0 < a → FirstSeats n ty l a k r t out
  pub outside : (i : ℕ) → i < n → ty i ≢ r → out i ≡ u i
  pub unlimited : a ≡ 0 → (i : ℕ) → i < n → out i ≡ u i

-- the first instances for the starts t, if they have any; 0 in an unlimited type
pub record Seats (n : ℕ) (ty limit busy : ℕ → ℕ) (l : ℕ) (t u : ℕ → ℕ) : Type 0 where
  pub limited : (r : ℕ) → r < most_types → 0 < limit r → FirstSeats n ty l (limit r) (busy r) r t u
  pub unlimited : (i : ℕ) → i < n → limit (ty i) ≡ 0 → u i ≡ 0

-- the same for the types below m
pub record SeatsTo (n : ℕ) (ty limit busy : ℕ → ℕ) (l : ℕ) (t u : ℕ → ℕ) (m : ℕ) : Type 0 where
  pub limited : (r : ℕ) → r < m → 0 < limit r → FirstSeats n ty l (limit r) (busy r) r t u
  pub unlimited : (i : ℕ) → i < n → limit (ty i) ≡ 0 → u i ≡ 0
