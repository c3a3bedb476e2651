-- Laws of rule 3, one instance: an operation more on it, one that has no place on it, and how many operations it takes.
-- Assumes nothing.
use Rattle.std.specs.Prelude.{◌≡◌, refl, Bool, true, false, cond, ◌⊎◌, ℕ, ◌+◌, ◌-◌, ◌*◌, ◌/◌, ◌≤◌, ◌<◌, ltb}
use Rattle.std.proofs.Common.{sym, ap, inl, inr, ⊎_elim, arith, mod-lt, ltb-true, lt-ltb, le-ltb, ltb-false}
use Rattle.std.proofs.Math.Decide.{dec_lt}
use Rattle.sizes.specs.Sizes.{most_operations}
use Rattle.laws.specs.Z.{true_false}
use Rattle.laws.specs.Count.{tally, tally_some, tally_cover, both_true, both_show}
use Rattle.held_slots.specs.Held.{off}
use Rattle.held_slots.specs.HeldLaws.{close_share, off_spec}
use Rattle.held_slots.specs.Circle.{clear, within, within_show, gap_room}
use Rattle.seats.specs.declared.Case.{Case}
use Rattle.seats.specs.Seating.{CaseOk, Filling, on, slot, between, Sits, Holds}

module _ (c : Case) (f : Filling c) where
  pub between_show : (v a b i : ℕ) → on c f v i ≡ true → a ≤ slot c f i → slot c f i < b → between c f v a b i ≡ true
  between_show v a b i e h q = both_show _ _ e (rw (le-ltb (slot c f i) a h) (lt-ltb (slot c f i) b q))

  pub between_yes : (v a b i : ℕ) → between c f v a b i ≡ true → (on c f v i ≡ true) × (a ≤ slot c f i) × (slot c f i < b)
  between_yes v a b i e = let q = both_true (on c f v i) _ e in go (ltb (slot c f i) a) refl q.0 q.1
    where
      go : (z : Bool) → ltb (slot c f i) a ≡ z → on c f v i ≡ true → cond z false (ltb (slot c f i) b) ≡ true → (on c f v i ≡ true) × (a ≤ slot c f i) × (slot c f i < b)
      go true e o q = true_false (sym q)
      go false e o q = (o, ltb-false (slot c f i) a e, ltb-true (slot c f i) b q)

  sits_later : {v from from' s i : ℕ} → from ≤ from' → Sits c f v from s i → Sits c f v from' s i
  sits_later h k = record { here = k.here; there = k.there; at = k.at; key = omega (arith, k.key) }

  pub hold_later : {v from from' a b k : ℕ} → from ≤ from' → Holds c f v from a b k → Holds c f v from' a b k
  hold_later h q = record {
    one = q.one;
    other = q.other;
    sits = sits_later h q.sits;
    sits' = sits_later h q.sits';
    order = q.order;
    few = q.few;
  }

  pub hold_new : {v from s x : ℕ} → Sits c f v from s x → Holds c f v from s s 0
  hold_new {v} {from} {s} {x} q = record {
    one = x;
    other = x;
    sits = q;
    sits' = q;
    order = omega arith;
    few = ⊎_elim (λ w. absurd (let z = between_yes v s s w.0 w.2 in omega (arith, z.1, z.2))) (λ e. omega (arith, e)) (tally_some c.ops (between c f v s s));
  }

module _ (c : Case) (ok : CaseOk c) (f : Filling c) (v from a b k : ℕ) (h : Holds c f v from a b k) where
  slot_in : (i : ℕ) → slot c f i < c.interval
  slot_in i = mod-lt (f.t i) ok.interval_ok

  low : a < c.interval
  low = omega (arith, h.sits.at, slot_in h.one)

  high : b < c.interval
  high = omega (arith, h.sits'.at, slot_in h.other)

  -- from its last pin round to its first
  pub hold_room : tally c.ops (on c f v) ≤ k + (c.interval + a - b) / c.busy
  hold_room = omega (
    arith,
    h.few,
    gap_room c.ops f.ty c.interval c.instances c.busy f.r f.t f.u ok.interval_ok ok.busy_some ok.fits f.seated v b high (c.interval + a - b) h.one h.sits.here h.sits.there (end (dec_lt a b)),
    tally_cover c.ops (on c f v) (between c f v a b) (within c.ops f.ty c.interval c.instances c.busy f.r f.t f.u ok.interval_ok ok.busy_some ok.fits f.seated v b high (c.interval + a - b)) (λ i m e. side i e (dec_lt (slot c f i) a) (dec_lt (slot c f i) b)),
  )
    where
      end : Dec (a < b) → (off c.interval b (slot c f h.one) ≡ c.interval + a - b) ⊎ ((c.interval + a - b ≡ c.interval) × (slot c f h.one ≡ b))
      end (yes q) = inl (rw h.sits.at (⊎_elim (λ x. omega (arith, x.0, x.1)) (λ x. absurd (omega (arith, x.0))) (off_spec c.interval b a low high)))
      end (no q) = inr (omega (arith, h.order), omega (arith, h.order, h.sits.at))

      side : (i : ℕ) → on c f v i ≡ true → Dec (slot c f i < a) → Dec (slot c f i < b) → (between c f v a b i ≡ true) ⊎ (within c.ops f.ty c.interval c.instances c.busy f.r f.t f.u ok.interval_ok ok.busy_some ok.fits f.seated v b high (c.interval + a - b) i ≡ true)
      side i e (yes x) d = inr (within_show c.ops f.ty c.interval c.instances c.busy f.r f.t f.u ok.interval_ok ok.busy_some ok.fits f.seated v b high (c.interval + a - b) i e (⊎_elim (λ y. omega (arith, y.0, y.1, high)) (λ y. absurd (omega (arith, y.0, h.order))) (off_spec c.interval b (slot c f i) (slot_in i) high)))
      side i e (no x) (yes y) = inl (between_show c f v a b i e (omega arith) y)
      side i e (no x) (no y) = inr (within_show c.ops f.ty c.interval c.instances c.busy f.r f.t f.u ok.interval_ok ok.busy_some ok.fits f.seated v b high (c.interval + a - b) i e (⊎_elim (λ z. absurd (omega (arith, z.0))) (λ z. omega (arith, z.0, z.1, slot_in i)) (off_spec c.interval b (slot c f i) (slot_in i) high)))

  module _ (x s : ℕ) (hx : x < c.ops) (there : on c f v x ≡ true) (at : slot c f x ≡ s) (next : from ≤ s * most_operations + x) where
    later : b ≤ s
    later = omega (arith, h.sits'.key, h.sits'.here, ok.ops_ok)

    -- one more
    pub hold_more : Holds c f v (s * most_operations + x + 1) a s (k + (s - b) / c.busy)
    hold_more = record {
      one = h.one;
      other = x;
      sits = sits_later c f (omega arith) h.sits;
      sits' = record { here = hx; there = there; at = at; key = omega arith };
      order = omega (arith, h.order, later);
      few = omega (
        arith,
        h.few,
        gap_room c.ops f.ty c.interval c.instances c.busy f.r f.t f.u ok.interval_ok ok.busy_some ok.fits f.seated v b high (s - b) x hx there (inl (rw at (⊎_elim (λ y. absurd (omega (arith, y.0, later))) (λ y. y.1) (off_spec c.interval b s in_interval high)))),
        tally_cover c.ops (between c f v a s) (between c f v a b) (within c.ops f.ty c.interval c.instances c.busy f.r f.t f.u ok.interval_ok ok.busy_some ok.fits f.seated v b high (s - b)) (λ i m e. let z = between_yes c f v a s i e in side i z.0 z.1 z.2 (dec_lt (slot c f i) b)),
      );
    }
      where
        in_interval : s < c.interval
        in_interval = omega (arith, at, slot_in x)

        side : (i : ℕ) → on c f v i ≡ true → a ≤ slot c f i → slot c f i < s → Dec (slot c f i < b) → (between c f v a b i ≡ true) ⊎ (within c.ops f.ty c.interval c.instances c.busy f.r f.t f.u ok.interval_ok ok.busy_some ok.fits f.seated v b high (s - b) i ≡ true)
        side i e q m (yes y) = inl (between_show c f v a b i e q y)
        side i e q m (no y) = inr (within_show c.ops f.ty c.interval c.instances c.busy f.r f.t f.u ok.interval_ok ok.busy_some ok.fits f.seated v b high (s - b) i e (⊎_elim (λ z. absurd (omega (arith, z.0))) (λ z. omega (arith, z.0, z.1)) (off_spec c.interval b (slot c f i) (slot_in i) high)))

    -- one that is too near to the last pin, or to the first
    pub hold_clash : (s < b + c.busy) ⊎ (a + c.interval < s + c.busy) → ⊥
    hold_clash (inl q) = clear c.ops f.ty c.interval c.instances c.busy f.r f.t f.u ok.interval_ok ok.busy_some ok.fits f.seated v h.other x h.sits'.here hx (λ e. absurd (omega (arith, e, h.sits'.key, ap (slot c f) e, h.sits'.at, at))) h.sits'.there there (close_share c.interval c.busy ok.interval_ok (f.t h.other) (f.t x) (inl (rw (h.sits'.at, at) (⊎_elim (λ y. absurd (omega (arith, y.0, later))) (λ y. omega (arith, y.1, later)) (off_spec c.interval b s (omega (arith, at, slot_in x)) high)))))
    hold_clash (inr q) = clear c.ops f.ty c.interval c.instances c.busy f.r f.t f.u ok.interval_ok ok.busy_some ok.fits f.seated v h.one x h.sits.here hx (λ e. absurd (omega (arith, e, h.sits.key, ap (slot c f) e, h.sits.at, at))) h.sits.there there (close_share c.interval c.busy ok.interval_ok (f.t h.one) (f.t x) (inr (rw (h.sits.at, at) (⊎_elim (λ y. omega (arith, y.0, y.1)) (λ y. omega (arith, y.0, y.1, later, h.order)) (off_spec c.interval s a low (omega (arith, at, slot_in x)))))))
