-- A list with one element for each number below n: a line for each operation, a number for each column. Its laws assume
-- nothing.
use Rattle.std.specs.Prelude.{◌≡◌, refl, List, [], ◌∷◌, ◌++◌, ℕ, zero, suc, ◌+◌, ◌≤◌, ◌<◌, length, take, get_or}
use Rattle.std.proofs.Common.{ap, ap₂, arith, add-one}

-- f of 0, of 1, and so on to n − 1
unfoldable pub each : {A : Type 0} → ℕ → (ℕ → A) → List A
each zero f = []
each (suc n) f = f 0 ∷ each n (λ i. f (suc i))

pub each_length : {A : Type 0} (n : ℕ) (f : ℕ → A) → length (each n f) ≡ n
unfolding each
each_length zero f = refl
each_length (suc n) f = ap suc (each_length n (λ i. f (suc i)))

pub each_at : {A : Type 0} (n : ℕ) (f : ℕ → A) (i : ℕ) (past : A) → i < n → get_or (each n f) i past ≡ f i
unfolding each
each_at zero f i past h = absurd (omega arith)
each_at (suc n) f zero past h = refl
each_at (suc n) f (suc i) past h = each_at n (λ i. f (suc i)) i past (omega arith)

each_next : {A : Type 0} (n : ℕ) (f : ℕ → A) → each (suc n) f ≡ each n f ++ (f n ∷ [])
unfolding each
each_next zero f = refl
each_next {A} (suc n) f = ap (λ (l : List A). f 0 ∷ l) (each_next n (λ i. f (suc i)))

-- one more
pub each_more : {A : Type 0} (n : ℕ) (f : ℕ → A) → each (n + 1) f ≡ each n f ++ (f n ∷ [])
each_more n f = rw add-one (each_next n f)

-- functions that agree below n
pub each_same : {A : Type 0} (n : ℕ) (f g : ℕ → A) → ((i : ℕ) → i < n → f i ≡ g i) → each n f ≡ each n g
unfolding each
each_same zero f g h = refl
each_same {A} (suc n) f g h = ap₂ (λ (x : A) (l : List A). x ∷ l) (h 0 (omega arith)) (each_same n (λ i. f (suc i)) (λ i. g (suc i)) (λ i l. h (suc i) (omega arith)))

-- the first n of a list, one by one
pub each_take : {A : Type 0} (n : ℕ) (xs : List A) (f : ℕ → A) (past : A) → n ≤ length xs → ((k : ℕ) → k < n → get_or xs k past ≡ f k) → take n xs ≡ each n f
unfolding each
each_take zero xs f past h e = refl
each_take (suc n) [] f past h e = absurd (omega arith)
each_take {A} (suc n) (x ∷ xs) f past h e = ap₂ (λ (y : A) (l : List A). y ∷ l) (e 0 (omega arith)) (each_take n xs (λ k. f (suc k)) past (omega arith) (λ k l. e (suc k) (omega arith)))
