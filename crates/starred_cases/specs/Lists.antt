-- Lists of n numbers: what the exhaustive tests say of each, and of a function's first n values. Assumes nothing.
use Rattle.std.specs.Prelude.{◌≡◌, refl, Bool, true, false, ◌⊎◌, List, [], ◌∷◌, ℕ, zero, suc, ◌<◌, eqb, ltb, length}
use Rattle.std.proofs.Common.{sym, ap, ap₂, subst, inl, inr, ⊎_elim, arith, eqb-true, ltb-true}
use Rattle.std.proofs.Math.Decide.{ℕ_discrete}
use Rattle.laws.specs.Entry.{vec}
use Rattle.laws.specs.Z.{true_false}
use Rattle.laws.specs.Count.{both_true, both_show}
use Rattle.dependence.specs.Rules.{LexLess, less, same}
use Rattle.plan.specs.Order.{Less, Same}
use Rattle.starred_cases.specs.Tests.{up_to, every, lex_then}

pub up_at : (n : ℕ) (p : ℕ → Bool) → up_to n p ≡ true → (i : ℕ) → i < n → p i ≡ true
unfolding up_to
up_at zero p h i l = absurd (omega arith)
up_at (suc n) p h i l = pick (ℕ_discrete i n) (λ m. up_at n p (both_true (up_to n p) (p n) h).0 i m)
  where
    pick : Dec (i ≡ n) → (i < n → p i ≡ true) → p i ≡ true
    pick (yes e) more = subst (λ (x : ℕ). p x ≡ true) (sym e) (both_true (up_to n p) (p n) h).1
    pick (no e) more = more (omega arith)

pub up_show : (n : ℕ) (p : ℕ → Bool) → ((i : ℕ) → i < n → p i ≡ true) → up_to n p ≡ true
unfolding up_to
up_show zero p h = refl
up_show (suc n) p h = both_show (up_to n p) (p n) (up_show n p (λ i l. h i (omega arith))) (h n (omega arith))

pub every_at : (n h : ℕ) (p : List ℕ → Bool) → every n h p ≡ true → (xs : List ℕ) → length xs ≡ n → ((i : ℕ) → i < n → vec xs i < h) → p xs ≡ true
unfolding every
every_at zero h p e [] l b = e
every_at zero h p e (x ∷ xs) l b = absurd (omega arith)
every_at (suc n) h p e [] l b = absurd (omega arith)
every_at (suc n) h p e (x ∷ xs) l b =
    every_at n h (λ ys. p (x ∷ ys)) (up_at h (λ y. every n h (λ ys. p (y ∷ ys))) e x (b 0 (omega arith))) xs (omega arith) (λ i q. b (suc i) (omega arith))

-- the first n values of a function
unfoldable pub list_of : ℕ → (ℕ → ℕ) → List ℕ
list_of zero f = []
list_of (suc n) f = f 0 ∷ list_of n (λ i. f (suc i))

pub list_length : (n : ℕ) (f : ℕ → ℕ) → length (list_of n f) ≡ n
unfolding list_of
list_length zero f = refl
list_length (suc n) f = ap suc (list_length n (λ i. f (suc i)))

pub list_at : (n : ℕ) (f : ℕ → ℕ) → Same n f (vec (list_of n f))
unfolding list_of
list_at zero f i l = absurd (omega arith)
list_at (suc n) f zero l = refl
list_at (suc n) f (suc i) l = list_at n (λ j. f (suc j)) i (omega arith)

-- ---- the order

less_tail : (n x y : ℕ) (xs ys : List ℕ) → x ≡ y → Less n (vec xs) (vec ys) → Less (suc n) (vec (x ∷ xs)) (vec (y ∷ ys))
less_tail n x y xs ys e l = record { at = suc l.at; within = omega (arith, l.within); equal = at; less = l.less }
  where
    at : (i : ℕ) → i < suc l.at → vec (x ∷ xs) i ≡ vec (y ∷ ys) i
    at zero h = e
    at (suc i) h = l.equal i (omega arith)

same_tail : (n x y : ℕ) (xs ys : List ℕ) → x ≡ y → Same n (vec xs) (vec ys) → Same (suc n) (vec (x ∷ xs)) (vec (y ∷ ys))
same_tail n x y xs ys e s zero h = e
same_tail n x y xs ys e s (suc i) h = s i (omega arith)

by_flag : {P : Type 0} (b : Bool) → (b ≡ true → P) → (b ≡ false → P) → P
by_flag true f g = f refl
by_flag false f g = g refl

pub lex_order : (n : ℕ) (xs ys : List ℕ) (b : Bool) → length xs ≡ n → lex_then xs ys b ≡ true
    → Less n (vec xs) (vec ys) ⊎ (Same n (vec xs) (vec ys) × (b ≡ true))
unfolding lex_then
lex_order zero [] ys b l e = inr ((λ i h. absurd (omega arith)), e)
lex_order (suc n) [] ys b l e = absurd (omega arith)
lex_order zero (x ∷ xs) ys b l e = absurd (omega arith)
lex_order (suc n) (x ∷ xs) [] b l e = true_false (sym e)
lex_order (suc n) (x ∷ xs) (y ∷ ys) b l e = by_flag (ltb x y) first (λ f. rest f (lex_order n xs ys b (omega arith)))
  where
    first : ltb x y ≡ true → Less (suc n) (vec (x ∷ xs)) (vec (y ∷ ys)) ⊎ (Same (suc n) (vec (x ∷ xs)) (vec (y ∷ ys)) × (b ≡ true))
    first t = inl (record { at = 0; within = omega arith; equal = λ i h. absurd (omega arith); less = ltb-true x y t })

    rest : ltb x y ≡ false → (lex_then xs ys b ≡ true → Less n (vec xs) (vec ys) ⊎ (Same n (vec xs) (vec ys) × (b ≡ true)))
        → Less (suc n) (vec (x ∷ xs)) (vec (y ∷ ys)) ⊎ (Same (suc n) (vec (x ∷ xs)) (vec (y ∷ ys)) × (b ≡ true))
    rest f more =
        let q = both_true (eqb x y) (lex_then xs ys b) (rw f at e) in
        ⊎_elim (λ z. inl (less_tail n x y xs ys (eqb-true x y q.0) z)) (λ z. inr (same_tail n x y xs ys (eqb-true x y q.0) z.0, z.1)) (more q.1)

pub lex_before : (xs ys : List ℕ) → length xs ≡ length ys → lex_then xs ys true ≡ true → (xs ≡ ys) ⊎ LexLess xs ys
unfolding lex_then
lex_before [] [] l e = inl refl
lex_before [] (y ∷ ys) l e = absurd (omega arith)
lex_before (x ∷ xs) [] l e = absurd (omega arith)
lex_before (x ∷ xs) (y ∷ ys) l e = by_flag (ltb x y) (λ t. inr (less (ltb-true x y t))) (λ f. rest f (lex_before xs ys (omega arith)))
  where
    rest : ltb x y ≡ false → (lex_then xs ys true ≡ true → (xs ≡ ys) ⊎ LexLess xs ys) → (x ∷ xs ≡ y ∷ ys) ⊎ LexLess (x ∷ xs) (y ∷ ys)
    rest f more =
        let q = both_true (eqb x y) (lex_then xs ys true) (rw f at e) in
        let z = eqb-true x y q.0 in
        ⊎_elim (λ m. inl (ap₂ ◌∷◌ z m)) (λ m. inr (subst (λ (v : ℕ). LexLess (x ∷ xs) (v ∷ ys)) z (same m))) (more q.1)
