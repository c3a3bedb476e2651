-- What holds of every element of a list.
-- Assumes nothing.
use Rattle.std.specs.Prelude.{List, [], ◌∷◌, ℕ, zero, suc, ◌≤◌, ◌<◌, length, take, get_or}
use Rattle.std.proofs.Common.{arith}

-- every element has P
abbrev pub All : {A : Type 0} → (A → Type 0) → List A → Type 0
All P [] = Unit {0}
All P (x ∷ xs) = P x × All P xs

module _ {A : Type 0} (P : A → Type 0) (d : A) where
  pub all_take : (xs : List A) (n : ℕ) → n ≤ length xs → ((i : ℕ) → i < n → P (get_or xs i d)) → All P (take n xs)
  all_take xs zero h f = tt
  all_take [] (suc n) h f = absurd (omega arith)
  all_take (x ∷ xs) (suc n) h f = (f 0 (omega arith), all_take xs n (omega arith) (λ i l. f (suc i) (omega arith)))

  pub all_at : (xs : List A) → All P xs → (i : ℕ) → i < length xs → P (get_or xs i d)
  all_at [] a i h = absurd (omega arith)
  all_at (x ∷ xs) a zero h = a.0
  all_at (x ∷ xs) a (suc i) h = all_at xs a.1 i (omega arith)
