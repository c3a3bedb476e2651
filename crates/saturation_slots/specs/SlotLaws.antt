-- Laws of slots: how far one is after another, and the slots that the rows of a type reach. Assumes nothing.
use Rattle.std.specs.Prelude.{◌≡◌, ℕ, ◌+◌, ◌-◌, ◌%◌, ◌<◌, ◌≤◌, Bool, true, false, cond, ◌≢◌, ◌⊎◌, List, nat_lt, refl}
use Rattle.std.proofs.Common.{sym, ap, ◌∙◌, inl, inr, ⊎_elim, arith, mod-eq_of_lt, ltb-true, ltb-false, le-ltb}
use Rattle.std.proofs.Math.Decide.{dec_lt}
use Rattle.std.proofs.Math.Nat.{mod-add-mod}
use Rattle.sizes.specs.Sizes.{most_starts}
use Rattle.laws.specs.Z.{true_false}
use Rattle.domain.specs.Domain.{has}
use Rattle.held_slots.specs.Held.{off}
use Rattle.held_slots.specs.HeldLaws.{off_spec, off_below}
use Rattle.saturation_slots.specs.Saturation.{slot_at, WithBlock, StepOne}

pub slot_spec : (l s w : ℕ) → s < l → w < l → ((s + w < l) × (slot_at l s w ≡ s + w)) ⊎ ((l ≤ s + w) × (slot_at l s w ≡ s + w - l))
slot_spec l s w hs hw = go (nat_lt (s + w) l) refl
  where
    go : (x : Bool) → nat_lt (s + w) l ≡ x → ((s + w < l) × (cond x (s + w) (s + w - l) ≡ s + w)) ⊎ ((l ≤ s + w) × (cond x (s + w) (s + w - l) ≡ s + w - l))
    go true e = inl (ltb-true (s + w) l e, refl)
    go false e = inr (ltb-false (s + w) l e, refl)

pub off_slot : (l s b w : ℕ) → b < l → s < l → w < l → off l s b ≡ w → b ≡ slot_at l s w
off_slot l s b w hb hs hw e = ⊎_elim (λ x. ⊎_elim (λ y. absurd (omega (arith, x.0, x.1, y.0, e))) (λ y. omega (arith, x.0, x.1, y.0, y.1, e)) (slot_spec l s w hs hw)) (λ x. ⊎_elim (λ y. omega (arith, x.0, x.1, y.0, y.1, e)) (λ y. absurd (omega (arith, x.0, x.1, y.0, e))) (slot_spec l s w hs hw)) (off_spec l s b hb hs)

-- from the next slot, each slot but s is one nearer
pub off_next : (l s b : ℕ) → b < l → s + 1 < l → b ≢ s → off l (s + 1) b + 1 ≡ off l s b
off_next l s b hb hs ne = ⊎_elim (λ x. ⊎_elim (λ y. omega (arith, x.0, x.1, y.0, y.1)) (λ y. absurd (ne (omega (arith, x.0, y.0)))) (off_spec l s b hb (omega arith))) (λ x. ⊎_elim (λ y. absurd (omega (arith, x.0, y.0))) (λ y. omega (arith, x.0, x.1, y.0, y.1)) (off_spec l s b hb (omega arith))) (off_spec l (s + 1) b hb hs)

pub off_zero : (l b : ℕ) → off l 0 b ≡ b
off_zero l b = rw (le-ltb b 0 (omega arith)) (omega arith)

-- the start m + k of a block has slot k
block_slot : (l m k : ℕ) → m % l ≡ 0 → m ≤ k → k < m + l → k % l ≡ k - m
block_slot l m k z h q = ap (λ (j : ℕ). j % l) back ∙ sym (mod-add-mod m l (k - m)) ∙ ap (λ (j : ℕ). (j + (k - m)) % l) z ∙ mod-eq_of_lt (omega arith) ∙ omega arith
  where
    back : k ≡ m + (k - m)
    back = omega arith

-- one block more
pub block_more : (l m : ℕ) (row u r : List Bool) → m % l ≡ 0 → ((k : ℕ) → k < m → k < most_starts → has row k ≡ true → has u (k % l) ≡ true) → WithBlock l m row u r → (k : ℕ) → k < m + l → k < most_starts → has row k ≡ true → has r (k % l) ≡ true
block_more l m row u r z c b k q h y = pick (dec_lt k m)
  where
    pick : Dec (k < m) → has r (k % l) ≡ true
    pick (yes x) = b.old (k % l) (c k x h y)
    pick (no x) = let e : k ≡ m + (k - m) = omega arith in
        ap (has r) (block_slot l m k z (omega arith) q) ∙ b.new (k - m) (omega arith) (omega arith) (sym (ap (has row) e) ∙ y)

-- the slot w after s is w after s
pub off_at : (l s w : ℕ) → s < l → w < l → off l s (slot_at l s w) ≡ w
off_at l s w hs hw = ⊎_elim (λ x. at (slot_at l s w) (omega (arith, x.0, x.1)) (inl x)) (λ x. at (slot_at l s w) (omega (arith, x.0, x.1)) (inr x)) (slot_spec l s w hs hw)
  where
    at : (c : ℕ) → c < l → ((s + w < l) × (c ≡ s + w)) ⊎ ((l ≤ s + w) × (c ≡ s + w - l)) → off l s c ≡ w
    at c hc (inl x) = ⊎_elim (λ y. absurd (omega (arith, x.0, x.1, y.0))) (λ y. omega (arith, x.0, x.1, y.0, y.1)) (off_spec l s c hc hs)
    at c hc (inr x) = ⊎_elim (λ y. omega (arith, x.0, x.1, y.0, y.1)) (λ y. absurd (omega (arith, x.0, x.1, y.0))) (off_spec l s c hc hs)

pub reach_step : (l s : ℕ) (row : List Bool) (old new : ℕ) → s + 1 < l → ((b : ℕ) → b < l → has row b ≡ true → off l s b < old) → StepOne (has row s) l old new → (b : ℕ) → b < l → has row b ≡ true → off l (s + 1) b < new
reach_step l s row old new h c k b hb y = go (has row s) refl
  where
    go : (x : Bool) → has row s ≡ x → off l (s + 1) b < new
    go true e = omega (arith, k.yes e, off_below l (s + 1) b hb h)
    go false e = omega (arith, k.no e, c b hb y, off_next l s b hb h (λ q. true_false (sym y ∙ ap (has row) q ∙ e)))

-- from the slot w after s, a slot that is no nearer than w is nearer by w
pub off_later : (l s w b : ℕ) → b < l → s < l → w < l → w ≤ off l s b → off l (slot_at l s w) b + w ≡ off l s b
off_later l s w b hb hs hw h = ⊎_elim (λ x. at (slot_at l s w) (omega (arith, x.0, x.1)) (inl x)) (λ x. at (slot_at l s w) (omega (arith, x.0, x.1)) (inr x)) (slot_spec l s w hs hw)
  where
    at : (c : ℕ) → c < l → ((s + w < l) × (c ≡ s + w)) ⊎ ((l ≤ s + w) × (c ≡ s + w - l)) → off l c b + w ≡ off l s b
    at c hc (inl x) = ⊎_elim (λ y. ⊎_elim (λ z. omega (arith, x.0, x.1, y.0, y.1, z.0, z.1)) (λ z. absurd (omega (arith, x.0, x.1, y.0, y.1, z.0, z.1))) (off_spec l s b hb hs)) (λ y. ⊎_elim (λ z. omega (arith, x.0, x.1, y.0, y.1, z.0, z.1)) (λ z. omega (arith, x.0, x.1, y.0, y.1, z.0, z.1)) (off_spec l s b hb hs)) (off_spec l c b hb hc)
    at c hc (inr x) = ⊎_elim (λ y. ⊎_elim (λ z. omega (arith, x.0, x.1, y.0, y.1, z.0, z.1)) (λ z. absurd (omega (arith, x.0, x.1, y.0, y.1, z.0, z.1))) (off_spec l s b hb hs)) (λ y. ⊎_elim (λ z. omega (arith, x.0, x.1, y.0, y.1, z.0, z.1)) (λ z. absurd (omega (arith, x.0, x.1, y.0, y.1, z.0, z.1))) (off_spec l s b hb hs)) (off_spec l c b hb hc)

pub slot_small : (l s w : ℕ) → s < l → w < l → slot_at l s w < l
slot_small l s w hs hw = ⊎_elim (λ x. omega (arith, x.0, x.1)) (λ x. omega (arith, x.0, x.1)) (slot_spec l s w hs hw)
