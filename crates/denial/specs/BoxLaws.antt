-- A box after a cut: a point of the box is in the part that has its start or its instance, and a point of a part is in
-- the box. Assumes nothing.
use Rattle.std.specs.Prelude.{◌≡◌, refl, Bool, true, false, cond, ◌≢◌, ℕ, ◌+◌, ◌≤◌, ◌<◌, min, max, eqb, ℤ, ◌≤ℤ◌}
use Rattle.std.proofs.Common.{sym, subst, arith, eq-eqb, ne_eqb}
use Rattle.std.proofs.Math.Decide.{ℕ_discrete}
use Rattle.std.proofs.Math.IntN.{pos}
use Rattle.std.specs.Int.Signed.{le_z}
use Rattle.laws.specs.Z.{zed, le_z_true, le_z_false}
use Rattle.denial.specs.Box.{Box, Inside, changed, lesser, starts_to, starts_above, instances_to, instances_above}

-- by a decision
pub which : {P A : Type 0} → Dec P → (P → A) → ((P → ⊥) → A) → A
which (yes p) f g = f p
which (no n) f g = g n

-- what holds of x at i and of f elsewhere holds of f with x at i
pub changed_each : {A : Type 0} (Q : ℕ → A → Type 0) (i : ℕ) (x : A) (f : ℕ → A) → Q i x
    → ((j : ℕ) → j ≢ i → Q j (f j)) → (j : ℕ) → Q j (changed i x f j)
unfolding changed
changed_each {A} Q i x f here other j = pick (ℕ_discrete j i)
  where
    pick : Dec (j ≡ i) → Q j (cond (eqb j i) x (f j))
    pick (yes e) =
        subst (λ (c : Bool). Q j (cond c x (f j))) (sym (eq-eqb j i e)) (subst (λ (k : ℕ). Q k x) (sym e) here)
    pick (no n) = subst (λ (c : Bool). Q j (cond c x (f j))) (sym (ne_eqb j i n)) (other j n)

pub changed_here : {A : Type 0} (i : ℕ) (x : A) (f : ℕ → A) → changed i x f i ≡ x
unfolding changed
changed_here i x f = rw (eq-eqb i i refl)

pub changed_other : {A : Type 0} (i : ℕ) (x : A) (f : ℕ → A) (j : ℕ) → j ≢ i → changed i x f j ≡ f j
unfolding changed
changed_other i x f j n = rw (ne_eqb j i n)

-- both bounds
pub lesser_low : (z : ℤ) (v t : ℕ) → pos t ≤ℤ z → t ≤ v → pos t ≤ℤ lesser z v
unfolding lesser
lesser_low z v t h k = go (le_z z (pos v))
  where
    go : (c : Bool) → pos t ≤ℤ cond c z (pos v)
    go true = h
    go false = omega (arith, zed)

pub lesser_high : (z : ℤ) (v : ℕ) → lesser z v ≤ℤ z
unfolding lesser
lesser_high z v = go (le_z z (pos v)) refl
  where
    go : (c : Bool) → le_z z (pos v) ≡ c → cond c z (pos v) ≤ℤ z
    go true e = omega (arith, zed)
    go false e = omega (arith, zed, le_z_false z (pos v) e)

pub at_least : (z : ℤ) (v : ℕ) → lesser z v ≤ℤ pos v
unfolding lesser
at_least z v = go (le_z z (pos v)) refl
  where
    go : (c : Bool) → le_z z (pos v) ≡ c → cond c z (pos v) ≤ℤ pos v
    go true e = le_z_true z (pos v) e
    go false e = omega (arith, zed)

pub lesser_cut : (z : ℤ) (v : ℕ) → pos v ≤ℤ z → lesser z v ≡ pos v
unfolding lesser
lesser_cut z v h = go (le_z z (pos v)) refl
  where
    go : (c : Bool) → le_z z (pos v) ≡ c → cond c z (pos v) ≡ pos v
    go true e = omega (arith, zed, le_z_true z (pos v) e)
    go false e = refl

module _ {n : ℕ} {b : Box} {t u : ℕ → ℕ} where
  -- a point of the box is in the part that has its start
  pub in_starts_to : (i v : ℕ) → Inside n b t u → i < n → t i ≤ v → Inside n (starts_to b i v) t u
  unfolding starts_to
  in_starts_to i v p h l = record {
    low = p.low;
    high =
        changed_each (λ j z. j < n → pos (t j) ≤ℤ z) i (lesser (b.highest i) v) b.highest
        (λ q. lesser_low (b.highest i) v (t i) (p.high i h) l) (λ j _. p.high j);
    first = p.first;
    last = p.last;
  }

  pub in_starts_above : (i v : ℕ) → Inside n b t u → i < n → v < t i → Inside n (starts_above b i v) t u
  unfolding starts_above
  in_starts_above i v p h l = record {
    low =
        changed_each (λ j x. j < n → x ≤ t j) i (max (b.lowest i) (v + 1)) b.lowest
        (λ q. omega (arith, p.low i h)) (λ j _. p.low j);
    high = p.high;
    first = p.first;
    last = p.last;
  }

  pub in_instances_to : (i k : ℕ) → Inside n b t u → i < n → u i ≤ k → Inside n (instances_to b i k) t u
  unfolding instances_to
  in_instances_to i k p h l = record {
    low = p.low;
    high = p.high;
    first = p.first;
    last =
        changed_each (λ j x. j < n → u j ≤ x) i (min (b.last i) k) b.last
        (λ q. omega (arith, p.last i h)) (λ j _. p.last j);
  }

  pub in_instances_above : (i k : ℕ) → Inside n b t u → i < n → k < u i → Inside n (instances_above b i k) t u
  unfolding instances_above
  in_instances_above i k p h l = record {
    low = p.low;
    high = p.high;
    first =
        changed_each (λ j x. j < n → x ≤ u j) i (max (b.first i) (k + 1)) b.first
        (λ q. omega (arith, p.first i h)) (λ j _. p.first j);
    last = p.last;
  }

  -- a point of a part is in the box
  pub of_starts_to : (i v : ℕ) → Inside n (starts_to b i v) t u → Inside n b t u
  unfolding starts_to
  of_starts_to i v p = record {
    low = p.low;
    high = λ j h.
        let q =
        changed_each (λ k z. z ≤ℤ b.highest k) i (lesser (b.highest i) v) b.highest
        (lesser_high (b.highest i) v) (λ k _. omega (arith, zed)) j in
        omega (arith, zed, p.high j h, q);
    first = p.first;
    last = p.last;
  }

  pub of_starts_above : (i v : ℕ) → Inside n (starts_above b i v) t u → Inside n b t u
  unfolding starts_above
  of_starts_above i v p = record {
    low = λ j h.
        let q =
        changed_each (λ k x. b.lowest k ≤ x) i (max (b.lowest i) (v + 1)) b.lowest
        (omega arith) (λ k _. omega arith) j in
        omega (arith, p.low j h, q);
    high = p.high;
    first = p.first;
    last = p.last;
  }

  pub of_instances_to : (i k : ℕ) → Inside n (instances_to b i k) t u → Inside n b t u
  unfolding instances_to
  of_instances_to i k p = record {
    low = p.low;
    high = p.high;
    first = p.first;
    last = λ j h.
        let q =
        changed_each (λ m x. x ≤ b.last m) i (min (b.last i) k) b.last
        (omega arith) (λ m _. omega arith) j in
        omega (arith, p.last j h, q);
  }

  pub of_instances_above : (i k : ℕ) → Inside n (instances_above b i k) t u → Inside n b t u
  unfolding instances_above
  of_instances_above i k p = record {
    low = p.low;
    high = p.high;
    first = λ j h.
        let q =
        changed_each (λ m x. b.first m ≤ x) i (max (b.first i) (k + 1)) b.first
        (omega arith) (λ m _. omega arith) j in
        omega (arith, p.first j h, q);
    last = p.last;
  }
