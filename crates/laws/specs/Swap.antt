-- The swap of two numbers: the one takes the place of the other, and all others stay. Assumes nothing.
use Rattle.std.specs.Prelude.{◌≡◌, refl, ◌⊎◌, ◌≢◌, ℕ, ◌<◌}
use Rattle.std.proofs.Common.{sym, ◌∙◌, inl, inr, ⊎_elim, arith}
use Rattle.std.proofs.Math.Decide.{ℕ_discrete}

-- x, but w in place of v, and v in place of w
pub swap : ℕ → ℕ → ℕ → ℕ
swap v w x = go (ℕ_discrete x v) (ℕ_discrete x w)
  where
    go : Dec (x ≡ v) → Dec (x ≡ w) → ℕ
    go (yes e) d = w
    go (no n) (yes e) = v
    go (no n) (no m) = x

-- the three cases
abbrev pub Swapped : ℕ → ℕ → ℕ → Type 0
Swapped v w x =
    ((x ≡ v) × (swap v w x ≡ w)) ⊎ ((x ≢ v) × (((x ≡ w) × (swap v w x ≡ v)) ⊎ ((x ≢ w) × (swap v w x ≡ x))))

pub swap_spec : (v w x : ℕ) → Swapped v w x
unfolding swap
swap_spec v w x = go (ℕ_discrete x v) (ℕ_discrete x w) refl refl
  where
    go : (d : Dec (x ≡ v)) (e : Dec (x ≡ w)) → ℕ_discrete x v ≡ d → ℕ_discrete x w ≡ e → Swapped v w x
    go (yes p) e q s = inl (p, rw q)
    go (no p) (yes m) q s = inr (p, inl (m, rw (q, s)))
    go (no p) (no m) q s = inr (p, inr (m, rw (q, s)))

pub swap_below : (v w x a : ℕ) → v < a → w < a → x < a → swap v w x < a
swap_below v w x a h k l = ⊎_elim
    (λ q. omega (arith, q.1))
    (λ q. ⊎_elim (λ s. omega (arith, s.1)) (λ s. omega (arith, s.1)) q.1)
    (swap_spec v w x)

pub swap_same : (v w x y : ℕ) → swap v w x ≡ swap v w y → x ≡ y
swap_same v w x y e = ⊎_elim
    (λ p. at_v p (swap_spec v w y))
    (λ p. ⊎_elim (λ s. at_w p.0 s (swap_spec v w y)) (λ s. other p.0 s (swap_spec v w y)) p.1)
    (swap_spec v w x)
  where
    at_v : (x ≡ v) × (swap v w x ≡ w) → Swapped v w y → x ≡ y
    at_v p (inl q) = p.0 ∙ sym q.0
    at_v p (inr (n, inl q)) = p.0 ∙ sym q.1 ∙ sym e ∙ p.1 ∙ sym q.0
    at_v p (inr (n, inr q)) = absurd (q.0 (sym q.1 ∙ sym e ∙ p.1))

    at_w : x ≢ v → (x ≡ w) × (swap v w x ≡ v) → Swapped v w y → x ≡ y
    at_w n p (inl q) = p.0 ∙ sym q.1 ∙ sym e ∙ p.1 ∙ sym q.0
    at_w n p (inr (m, inl q)) = p.0 ∙ sym q.0
    at_w n p (inr (m, inr q)) = absurd (m (sym q.1 ∙ sym e ∙ p.1))

    other : x ≢ v → (x ≢ w) × (swap v w x ≡ x) → Swapped v w y → x ≡ y
    other n p (inl q) = absurd (p.0 (sym p.1 ∙ e ∙ q.1))
    other n p (inr (m, inl q)) = absurd (n (sym p.1 ∙ e ∙ q.1))
    other n p (inr (m, inr q)) = sym p.1 ∙ e ∙ q.1

-- numbers other than v and w stay
pub swap_keep : (v w x y : ℕ) → y ≢ v → y ≢ w → x ≡ y → swap v w x ≡ y
swap_keep v w x y n m e = ⊎_elim
    (λ p. absurd (n (sym e ∙ p.0)))
    (λ p. ⊎_elim (λ s. absurd (m (sym e ∙ s.0))) (λ s. s.1 ∙ e) p.1)
    (swap_spec v w x)

pub swap_kept : (v w x y : ℕ) → y ≢ v → y ≢ w → swap v w x ≡ y → x ≡ y
swap_kept v w x y n m e = ⊎_elim
    (λ p. absurd (m (sym e ∙ p.1)))
    (λ p. ⊎_elim (λ s. absurd (n (sym e ∙ s.1))) (λ s. sym s.1 ∙ e) p.1)
    (swap_spec v w x)

pub swap_here : (v w : ℕ) → swap v w w ≡ v
swap_here v w = ⊎_elim
    (λ p. p.1 ∙ p.0)
    (λ p. ⊎_elim (λ s. s.1) (λ s. absurd (s.0 refl)) p.1)
    (swap_spec v w w)

pub swap_there : (v w : ℕ) → swap v w v ≡ w
swap_there v w = ⊎_elim (λ p. p.1) (λ p. absurd (p.0 refl)) (swap_spec v w v)
