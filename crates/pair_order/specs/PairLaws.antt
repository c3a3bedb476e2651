-- What follows from the pair numbers j × (j − 1) / 2 + i, for any number of operations: each next j has j pairs more
-- before it, so that one pair has one number and one number one pair. Assumes nothing.
use Rattle.std.specs.Prelude.{◌≡◌, refl, ℕ, zero, suc, ◌+◌, ◌*◌, ◌-◌, ◌/◌, ◌≤◌, ◌<◌}
use Rattle.std.proofs.Common.{sym, ap, subst, ◌∙◌, suc-mul, mul-suc, mul-le-mul, add-one, arith, Fits}
use Rattle.std.proofs.Math.Decide.{ℕ_discrete, dec_lt}
use Rattle.std.specs.Int.{w64}
use Rattle.sizes.specs.Sizes.{most_operations}
use Rattle.pair_order.specs.Pairs.{pair_count, PairNumber, Pair}

-- ---- the formula's step

half : (x j : ℕ) → (x + j + j) / 2 ≡ x / 2 + j
half x j = omega arith

-- the next operation has j pairs more before it, for every j
pub step : (j : ℕ) → pair_count (suc j) ≡ pair_count j + j
step zero = refl
step (suc k) =
    let a : suc (suc k) - 1 ≡ suc k = omega arith in
    let b : suc k - 1 ≡ k = omega arith in
    let e : suc (suc k) * suc k ≡ suc k * k + suc k + suc k = suc-mul (suc k) (suc k) ∙ ap (λ (x : ℕ). x + suc k) (mul-suc (suc k) k) in
    ap (λ (x : ℕ). suc (suc k) * x / 2) a ∙ ap (λ (x : ℕ). x / 2) e ∙ half (suc k * k) (suc k) ∙ ap (λ (x : ℕ). suc k * x / 2 + suc k) (sym b)

-- ---- one pair has one number, and one number one pair

far_at : (j k : ℕ) → j < suc k → (j < k → pair_count j + j ≤ pair_count k) → Dec (j ≡ k) → pair_count j + j ≤ pair_count (suc k)
far_at j k l ih (yes e) = subst (λ (m : ℕ). pair_count j + j ≤ pair_count (suc m)) e (omega (arith, step j))
far_at j k l ih (no n) = omega (arith, step k, ih (omega arith))

far : (j k : ℕ) → j < k → pair_count j + j ≤ pair_count k
far j zero l = absurd (omega arith)
far j (suc k) l = far_at j k l (far j k) (ℕ_discrete j k)

unique_at : {n pair i j i' j' : ℕ} → Pair n pair i j → Pair n pair i' j' → Dec (j ≡ j') → Dec (j < j') → (i ≡ i') × (j ≡ j')
unique_at {pair = pair} {j = j} {i' = i'} p q (yes e) d =
    let r : pair ≡ pair_count j + i' = subst (λ (k : ℕ). pair ≡ pair_count k + i') (sym e) q.number in
    (omega (arith, p.number, r), e)
unique_at {j = j} {j' = j'} p q (no n) (yes l) = absurd (omega (arith, p.number, q.number, far j j' l, p.before))
unique_at {j = j} {j' = j'} p q (no n) (no m) = absurd (omega (arith, p.number, q.number, far j' j (omega arith), q.before))

pub pair_unique : {n pair i j i' j' : ℕ} → Pair n pair i j → Pair n pair i' j' → (i ≡ i') × (j ≡ j')
pair_unique {j = j} {j' = j'} p q = unique_at p q (ℕ_discrete j j') (dec_lt j j')

-- a pair of operations has a number below that of all pairs
pub pair_below : {n pair i j : ℕ} → Pair n pair i j → PairNumber n pair
pair_below {n} {j = j} p = omega (arith, p.number, far j n p.within, p.before)

-- ---- the later operation of a pair

-- the pair is one of those with j as the later operation: from the first pair number for j to below that for j + 1
pub record Between (pair j : ℕ) : Type 0 where
  pub from : pair_count j ≤ pair
  pub to : pair < pair_count (j + 1)

within_at : (n pair j : ℕ) → PairNumber n pair → Between pair j → Dec (j < n) → Dec (n ≡ j) → j < n
within_at n pair j l b (yes q) d = q
within_at n pair j l b (no q) (yes e) = absurd (omega (arith, l, b.from, ap (λ (k : ℕ). pair_count k) e))
within_at n pair j l b (no q) (no e) = absurd (omega (arith, l, b.from, far n j (omega arith)))

-- it is an operation of the sheet, and the pair's number less the first is the earlier one
pub between_pair : (n pair j : ℕ) → PairNumber n pair → Between pair j → Pair n pair (pair - pair_count j) j
between_pair n pair j l b = record {
  before = omega (arith, b.from, b.to, step j, ap (λ (k : ℕ). pair_count k) (add-one j));
  within = within_at n pair j l b (dec_lt j n) (ℕ_discrete n j);
  number = omega (arith, b.from);
}

-- ---- the number of all pairs of n operations

-- the pairs of the most operations
abbrev pub most_pairs : ℕ
most_pairs = pair_count most_operations

top_at : (n : ℕ) → n ≤ most_operations → Dec (n ≡ most_operations) → pair_count n ≤ most_pairs
top_at n h (yes e) = subst (λ (k : ℕ). pair_count k ≤ most_pairs) (sym e) (omega arith)
top_at n h (no e) = omega (arith, far n most_operations (omega arith))

-- none has more
pub top : (n : ℕ) → n ≤ most_operations → pair_count n ≤ most_pairs
top n h = top_at n h (ℕ_discrete n most_operations)

-- a product of two such counts fits its type
pub product_fits : {a b : ℕ} → a ≤ most_operations → b ≤ most_operations → Fits w64 (a * b)
product_fits {a} {b} h k =
    let m = mul-le-mul {n₁ = a} {m₁ = b} {n₂ = most_operations} {m₂ = most_operations} h k in
    record { fits = omega arith }
