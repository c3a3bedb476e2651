-- How many operations an instance takes, if each holds k of l slots: a stretch of w slots that ends at an operation of
-- the instance takes at most w / k of them, all slots at most l / k; so a type with a instances takes at most a times
-- as many. Assumes nothing.
use Rattle.std.specs.Prelude.{◌≡◌, refl, Bool, false, cond, ◌⊎◌, ◌≢◌, ltb}
use Rattle.std.proofs.Common.{sym, ap, ◌∙◌, mod-lt, div-add-mod', mul-le-mul, mul_assoc, le_refl}
use Rattle.std.proofs.Math.Bool.{true}
use Rattle.std.proofs.Math.Logic.{inl, inr, ⊎_elim}
use Prim.Native.Nat.{ℕ, zero, suc, ◌+◌, ◌-◌, ◌*◌, ◌/◌, ◌%◌, ◌≤◌, ◌<◌}
use native.Mathlib.Omega.{arith}
use Rattle.std.proofs.Math.Nat.{suc-mul}
use Rattle.std.proofs.Math.Decide.{ℕ_discrete, dec_lt}
use Rattle.std.proofs.Math.Dec.{eqb}
use borrow.Author.Tests.{eqb-true, eq-eqb, ltb-true, lt-ltb}
use Rattle.laws.specs.Count.{tally, tally_some, tally_le, tally_cover, both_true, both_show}
use Rattle.laws.specs.Places.{tally_one}
use Rattle.held_slots.specs.Held.{Share, off}
use Rattle.held_slots.specs.HeldLaws.{meet_back, close_share, gap_share, off_spec, off_below, off_same}
use Rattle.held_slots.specs.Seated.{SeatedIn, on_instance}

-- how far it is from a slot b in a stretch of w slots from s on to its end c
ahead : (l s b c w : ℕ) → b < l → c < l → s < l → off l s b < w → (off l s c ≡ w) ⊎ ((w ≡ l) × (c ≡ s)) → off l b c + off l s b ≤ w
ahead l s b c w hb hc hs h end = go (off_spec l s b hb hs) (off_spec l b c hc hb) (off_spec l s c hc hs) end
  where
    go : ((b < s) × (off l s b ≡ b + l - s)) ⊎ ((s ≤ b) × (off l s b ≡ b - s)) → ((c < b) × (off l b c ≡ c + l - b)) ⊎ ((b ≤ c) × (off l b c ≡ c - b)) → ((c < s) × (off l s c ≡ c + l - s)) ⊎ ((s ≤ c) × (off l s c ≡ c - s)) → (off l s c ≡ w) ⊎ ((w ≡ l) × (c ≡ s)) → off l b c + off l s b ≤ w
    go (inl x) (inl y) (inl z) (inl q) = omega (arith, x.0, x.1, y.0, y.1, z.0, z.1)
    go (inl x) (inl y) (inr z) (inl q) = omega (arith, x.0, x.1, y.0, y.1, z.0, z.1)
    go (inl x) (inr y) (inl z) (inl q) = omega (arith, x.0, x.1, y.0, y.1, z.0, z.1)
    go (inl x) (inr y) (inr z) (inl q) = omega (arith, x.0, x.1, y.0, y.1, z.0, z.1)
    go (inr x) (inl y) (inl z) (inl q) = omega (arith, x.0, x.1, y.0, y.1, z.0, z.1)
    go (inr x) (inl y) (inr z) (inl q) = omega (arith, x.0, x.1, y.0, y.1, z.0, z.1)
    go (inr x) (inr y) (inl z) (inl q) = omega (arith, x.0, x.1, y.0, y.1, z.0, z.1)
    go (inr x) (inr y) (inr z) (inl q) = omega (arith, x.0, x.1, y.0, y.1, z.0, z.1)
    go (inl x) (inl y) z (inr q) = omega (arith, x.0, x.1, y.0, y.1, q.0, q.1)
    go (inl x) (inr y) z (inr q) = omega (arith, x.0, x.1, y.0, y.1, q.0, q.1)
    go (inr x) (inl y) z (inr q) = omega (arith, x.0, x.1, y.0, y.1, q.0, q.1)
    go (inr x) (inr y) z (inr q) = omega (arith, x.0, x.1, y.0, y.1, q.0, q.1)

module _ (n : ℕ) (ty : ℕ → ℕ) (l a k r : ℕ) (t u : ℕ → ℕ) (hl : 0 < l) (hk : 1 ≤ k) (fits : k ≤ l) (p : SeatedIn n ty l a k r t u) where
  pub on : (v i : ℕ) → on_instance ty u r v i ≡ true → (ty i ≡ r) × (u i ≡ v)
  on v i e = let q = both_true (eqb (ty i) r) (eqb (u i) v) e in (eqb-true (ty i) r q.0, eqb-true (u i) v q.1)

  pub clear : (v i j : ℕ) → i < n → j < n → i ≢ j → on_instance ty u r v i ≡ true → on_instance ty u r v j ≡ true → Share l k (t i) (t j) → ⊥
  clear v i j h m d e q s = p.apart i j h m (record { different = d; first = (on v i e).0; second = (on v j q).0; share = s }) ((on v i e).1 ∙ sym (on v j q).1)

  module _ (v s : ℕ) (hs : s < l) where
    -- those of the instance that start less than w after slot s
    pub within : ℕ → ℕ → Bool
    within w i = cond (on_instance ty u r v i) (ltb (off l s (t i % l)) w) false

    within_yes : (w i : ℕ) → within w i ≡ true → (on_instance ty u r v i ≡ true) × (off l s (t i % l) < w)
    unfolding within
    within_yes w i e = let q = both_true (on_instance ty u r v i) (ltb (off l s (t i % l)) w) e in (q.0, ltb-true (off l s (t i % l)) w q.1)

    pub within_show : (w i : ℕ) → on_instance ty u r v i ≡ true → off l s (t i % l) < w → within w i ≡ true
    unfolding within
    within_show w i e h = both_show _ _ e (lt-ltb (off l s (t i % l)) w h)

    -- those between w and w + k after it: at most one
    part : ℕ → ℕ → Bool
    part w i = cond (within (w + k) i) (ltb w (off l s (t i % l) + 1)) false

    part_yes : (w i : ℕ) → part w i ≡ true → (on_instance ty u r v i ≡ true) × (off l s (t i % l) < w + k) × (w ≤ off l s (t i % l))
    unfolding part
    part_yes w i e = let q = both_true (within (w + k) i) (ltb w (off l s (t i % l) + 1)) e in let z = within_yes (w + k) i q.0 in
        let y : w < off l s (t i % l) + 1 = ltb-true w (off l s (t i % l) + 1) q.1 in (z.0, z.1, omega arith)

    part_show : (w i : ℕ) → within (w + k) i ≡ true → w ≤ off l s (t i % l) → part w i ≡ true
    unfolding part
    part_show w i e h = both_show _ _ e (lt-ltb w (off l s (t i % l) + 1) (omega arith))

    part_one : (w : ℕ) → tally n (part w) ≤ 1
    part_one w = tally_one n (part w) (λ i j h m e q. let x = part_yes w i e in let y = part_yes w j q in pick i j h m x y (dec_lt (off l s (t j % l)) (off l s (t i % l))))
      where
        pick : (i j : ℕ) → i < j → j < n → (on_instance ty u r v i ≡ true) × (off l s (t i % l) < w + k) × (w ≤ off l s (t i % l)) → (on_instance ty u r v j ≡ true) × (off l s (t j % l) < w + k) × (w ≤ off l s (t j % l)) → Dec (off l s (t j % l) < off l s (t i % l)) → ⊥
        pick i j h m x y (yes z) = clear v i j (omega arith) m (λ e. omega arith) x.0 y.0 (meet_back (gap_share l k hl s (t j) (t i) hs (omega arith) (omega (arith, x.1, y.2))))
        pick i j h m x y (no z) = clear v i j (omega arith) m (λ e. omega arith) x.0 y.0 (gap_share l k hl s (t i) (t j) hs (omega arith) (omega (arith, y.1, x.2)))

    -- q parts of k slots
    parts : (q : ℕ) → tally n (within (q * k)) ≤ q
    parts zero = ⊎_elim (λ w. absurd (let z = (within_yes (0 * k) w.0 w.2).1 in omega (arith, z))) (λ e. omega (arith, e)) (tally_some n (within (0 * k)))
    parts (suc q) = omega (
      arith,
      parts q,
      part_one (q * k),
      tally_cover n (within (suc q * k)) (within (q * k)) (part (q * k)) (λ i h e. let z = within_yes (suc q * k) i e in side i z (dec_lt (off l s (t i % l)) (q * k))),
    )
      where
        side : (i : ℕ) → (on_instance ty u r v i ≡ true) × (off l s (t i % l) < suc q * k) → Dec (off l s (t i % l) < q * k) → (within (q * k) i ≡ true) ⊎ (part (q * k) i ≡ true)
        side i z (yes x) = inl (within_show (q * k) i z.0 x)
        side i z (no x) = inr (part_show (q * k) i (within_show (q * k + k) i z.0 (omega (arith, z.1, suc-mul q k))) (omega arith))

    -- e is w after s, or l after it
    pub gap_room : (w e : ℕ) → e < n → on_instance ty u r v e ≡ true → (off l s (t e % l) ≡ w) ⊎ ((w ≡ l) × (t e % l ≡ s)) → tally n (within w) ≤ w / k
    gap_room w e he oe end = omega (arith, parts (w / k), tally_le n (within w) (within (w / k * k)) (λ i h q. let z = within_yes w i q in within_show (w / k * k) i z.0 (before i h z.0 z.1 (dec_lt (off l s (t i % l)) (w / k * k)) (ℕ_discrete i e))))
      where
        full : w / k * k + w % k ≡ w
        full = div-add-mod' w k

        rest : w % k < k
        rest = mod-lt w (omega arith)

        before : (i : ℕ) → i < n → on_instance ty u r v i ≡ true → off l s (t i % l) < w → Dec (off l s (t i % l) < w / k * k) → Dec (i ≡ e) → off l s (t i % l) < w / k * k
        before i h o z (yes x) d = x
        before i h o z (no x) (yes y) = ⊎_elim (λ q. absurd (omega (arith, q, z, ap (λ (j : ℕ). off l s (t j % l)) y))) (λ q. omega (arith, full, rest, q.0, fits, ap (λ (j : ℕ). off l s (t j % l)) y, ap (λ (b : ℕ). off l s b) q.1, off_same l s hs)) end
        before i h o z (no x) (no y) = absurd (clear v i e h he y o oe (close_share l k hl (t i) (t e) (inl (omega (arith, full, rest, x, ahead l s (t i % l) (t e % l) w (mod-lt (t i) hl) (mod-lt (t e) hl) hs z end)))))

  -- all slots: a stretch of l of them from one of its operations on, which ends there
  pub instance_room : (v : ℕ) → tally n (on_instance ty u r v) ≤ l / k
  instance_room v = ⊎_elim (λ w. from w) (λ e. omega (arith, e)) (tally_some n (on_instance ty u r v))
    where
      from : (i : ℕ) × (i < n) × (on_instance ty u r v i ≡ true) → tally n (on_instance ty u r v) ≤ l / k
      from w =
          let s = t w.0 % l in
          let hs = mod-lt (t w.0) hl in
          omega (
            arith,
            gap_room v s hs l w.0 w.1 w.2 (inr (refl, refl)),
            tally_le n (on_instance ty u r v) (within v s hs l) (λ i h e. within_show v s hs l i e (off_below l s (t i % l) (mod-lt (t i) hl) hs)),
          )

  -- those with an instance below m
  under : ℕ → ℕ → Bool
  under m i = cond (eqb (ty i) r) (ltb (u i) m) false

  under_room : (m : ℕ) → tally n (under m) ≤ m * (l / k)
  unfolding under
  under_room zero = ⊎_elim (λ w. absurd (let q = both_true (eqb (ty w.0) r) (ltb (u w.0) 0) w.2 in let z : u w.0 < 0 = ltb-true (u w.0) 0 q.1 in omega arith)) (λ e. omega (arith, e)) (tally_some n (under 0))
  under_room (suc m) = omega (
    arith,
    under_room m,
    instance_room m,
    suc-mul m (l / k),
    tally_cover n (under (suc m)) (under m) (on_instance ty u r m) (λ i h e. let q = both_true (eqb (ty i) r) (ltb (u i) (suc m)) e in side i q.0 (ltb-true (u i) (suc m) q.1) (ℕ_discrete (u i) m)),
  )
    where
      side : (i : ℕ) → eqb (ty i) r ≡ true → u i < suc m → Dec (u i ≡ m) → (under m i ≡ true) ⊎ (on_instance ty u r m i ≡ true)
      side i e h (yes x) = inr (both_show _ _ e (eq-eqb _ _ x))
      side i e h (no x) = inl (both_show _ _ e (lt-ltb (u i) m (omega arith)))

  pub type_room : tally n (λ i. eqb (ty i) r) ≤ a * (l / k)
  unfolding under
  type_room = omega (arith, under_room a, tally_le n (λ i. eqb (ty i) r) (under a) (λ i h e. both_show _ _ e (lt-ltb (u i) a (p.below i h (eqb-true (ty i) r e)))))

  -- what the resource bound asks: operations times k are at most instances times l
  pub type_share : tally n (λ i. eqb (ty i) r) * k ≤ a * l
  type_share = omega (
    arith,
    mul-le-mul {n₁ = tally n (λ i. eqb (ty i) r)} {m₁ = k} {n₂ = a * (l / k)} {m₂ = k} type_room (le_refl k),
    mul_assoc a (l / k) k,
    mul-le-mul {n₁ = a} {m₁ = l / k * k} {n₂ = a} {m₂ = l} (le_refl a) (omega (arith, div-add-mod' l k)),
  )
