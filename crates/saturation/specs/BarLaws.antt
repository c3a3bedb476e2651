-- Laws of the stretches from one slot: what one slot more adds, what a stretch that takes too few says, and what a full
-- one does. Assumes nothing.
use Rattle.std.specs.Prelude.{◌≡◌, ℕ, ◌+◌, ◌*◌, ◌%◌, ◌<◌, ◌≤◌, max, Bool, true, false, ◌⊎◌, List, ◌==◌, nat_le, nat_lt, refl}
use Rattle.std.proofs.Common.{sym, ap, subst, ◌∙◌, inl, inr, ⊎_elim, arith, mod-lt, eqb-true, eq-eqb, ltb-true, lt-ltb, leb-true}
use Rattle.std.proofs.Math.Decide.{dec_lt}
use Rattle.sizes.specs.Sizes.{most_operations}
use Rattle.laws.specs.Entry.{vec}
use Rattle.laws.specs.Z.{true_false}
use Rattle.laws.specs.Count.{tally, tally_some, tally_le, tally_lt, tally_cover, both_true, both_show}
use Rattle.domain.specs.Domain.{has}
use Rattle.held_slots.specs.Held.{off}
use Rattle.held_slots.specs.Seated.{near_w}
use Rattle.saturation_slots.specs.SlotLaws.{off_slot, off_later, slot_small}
use Rattle.saturation_slots.specs.Saturation.{slot_at, inside_b, Room, Fits, NoRoom, Bars, Widened, Raised}

-- the same in the midst of it: the stretch of w slots, and of those that are covered, takes at most cap starts
pub record Caps (n : ℕ) (ty : ℕ → ℕ) (l a k r s : ℕ) (used : List Bool) (reach : List ℕ) (w covered cap : ℕ) (bar : List ℕ) : Type 0 where
  pub caps : (t : ℕ → ℕ) → Room n ty l a k r t → Fits n ty l r s used reach t → (tally n (near_w ty t l r s (max w covered)) ≤ cap) × ((i : ℕ) → i < n → ty i ≡ r → vec bar i ≤ off l s (t i % l))

module _ (n : ℕ) (ty : ℕ → ℕ) (l a k r s : ℕ) (hl : 0 < l) (hs : s < l) (used : List Bool) (reach : List ℕ) where
  slot_lt : (t : ℕ → ℕ) (i : ℕ) → t i % l < l
  slot_lt t i = mod-lt (t i) (hl)

  near_yes : (t : ℕ → ℕ) (w i : ℕ) → near_w ty t l r s w i ≡ true → (ty i ≡ r) × (off l s (t i % l) < w)
  near_yes t w i e = let q = both_true (ty i == r) (nat_lt (off l s (t i % l)) w) e in (eqb-true (ty i) r q.0, ltb-true (off l s (t i % l)) w q.1)

  near_show : (t : ℕ → ℕ) (b w i : ℕ) → ty i ≡ r → off l b (t i % l) < w → near_w ty t l r b w i ≡ true
  near_show t b w i e h = both_show _ _ (eq-eqb _ _ e) (lt-ltb (off l b (t i % l)) w h)

  pub caps_start : {bar : List ℕ} → ((i : ℕ) → i < n → vec bar i ≡ 0) → Caps n ty l a k r s used reach 0 0 0 bar
  caps_start {bar} z = record { caps = λ t pl f. (none t, λ i l e. omega (arith, z i l)) }
    where
      none : (t : ℕ → ℕ) → tally n (near_w ty t l r s (max 0 0)) ≤ 0
      none t = ⊎_elim (λ w. absurd (omega (arith, (near_yes t (max 0 0) w.0 w.2).1))) (λ e. omega (arith, e)) (tally_some n (near_w ty t l r s (max 0 0)))

  -- one slot more
  pub caps_next : {w covered cap cap' covered' : ℕ} {bar : List ℕ} → w < l → 1 ≤ k → Caps n ty l a k r s used reach w covered cap bar → Widened cap covered a k (has used (slot_at l s w)) w cap' covered' → Caps n ty l a k r s used reach (w + 1) covered' cap' bar
  caps_next {w} {covered} {cap} {cap'} {covered'} {bar} hw hk c m = record { caps = λ t pl f. let q = c.caps t pl f in (go t pl f q.0 (dec_lt w covered) (has used (slot_at l s w)) refl, q.1) }
    where
      -- a start that is within the new stretch but not the old one
      at : (t : ℕ → ℕ) (i v z : ℕ) → near_w ty t l r s z i ≡ true → (near_w ty t l r s v i ≡ true) ⊎ ((ty i ≡ r) × (v ≤ off l s (t i % l)) × (off l s (t i % l) < z))
      at t i v z e = pick (near_yes t z i e) (dec_lt (off l s (t i % l)) v)
        where
          pick : (ty i ≡ r) × (off l s (t i % l) < z) → Dec (off l s (t i % l) < v) → (near_w ty t l r s v i ≡ true) ⊎ ((ty i ≡ r) × (v ≤ off l s (t i % l)) × (off l s (t i % l) < z))
          pick q (yes x) = inl (near_show t s v i q.0 x)
          pick q (no x) = inr (q.0, omega arith, q.1)

      go : (t : ℕ → ℕ) → Room n ty l a k r t → Fits n ty l r s used reach t → tally n (near_w ty t l r s (max w covered)) ≤ cap → Dec (w < covered) → (b : Bool) → has used (slot_at l s w) ≡ b → tally n (near_w ty t l r s (max (w + 1) covered')) ≤ cap'
      -- covered already
      go t pl f h (yes x) b e = let q = m.inside x in omega (
        arith,
        q.0,
        tally_le n (near_w ty t l r s (max (w + 1) covered')) (near_w ty t l r s (max w covered))
            (λ i p y. let z = near_yes t _ i y in near_show t s (max w covered) i z.0 (omega (arith, z.1, q.1))),
      )
      -- k slots from here on
      go t pl f h (no x) true e = let q = m.new e (omega arith) in omega (
        arith,
        q.0,
        pl.room (slot_at l s w) (slot_small l s w hs hw),
        tally_cover n (near_w ty t l r s (max (w + 1) covered')) (near_w ty t l r s (max w covered)) (near_w ty t l r (slot_at l s w) k)
            (λ i p y. ⊎_elim (λ z. inl z) (λ z. inr (near_show t (slot_at l s w) k i z.0 (omega (arith, z.1, z.2, q.1, off_later l s w (t i % l) (slot_lt t i) hs hw (omega (arith, z.1)))))) (at t i (max w covered) (max (w + 1) covered') y)),
      )
      -- no start of the type is here
      go t pl f h (no x) false e = let q = m.unused e in omega (
        arith,
        q.0,
        tally_le n (near_w ty t l r s (max (w + 1) covered')) (near_w ty t l r s (max w covered))
            (λ i p y. ⊎_elim (λ z. z) (λ z. true_false (sym (f.uses i p z.0) ∙ ap (has used) (off_slot l s (t i % l) w (slot_lt t i) hs hw (omega (arith, z.1, z.2, q.1))) ∙ e)) (at t i (max w covered) (max (w + 1) covered') y)),
      )

  -- an operation that reaches at most w is in the stretch
  inside_near : (w covered : ℕ) (t : ℕ → ℕ) → Fits n ty l r s used reach t → (i : ℕ) → i < n → inside_b ty (vec reach) r w i ≡ true → near_w ty t l r s (max w covered) i ≡ true
  inside_near w covered t f i h e = let q = both_true (ty i == r) (nat_le (vec reach i) w) e in near_show t s (max w covered) i (eqb-true _ _ q.0) (omega (arith, f.reaches i h (eqb-true _ _ q.0), leb-true (vec reach i) w q.1))

  -- too many operations reach at most w: no plan
  pub caps_over : {w covered cap c : ℕ} {bar : List ℕ} → Caps n ty l a k r s used reach w covered cap bar → c ≡ tally n (inside_b ty (vec reach) r w) → cap < c → NoRoom n ty l a k r s used reach
  caps_over {w} {covered} {cap} q e h = record { none = λ t pl f. omega (arith, (q.caps t pl f).0, e, tally_le n (inside_b ty (vec reach) r w) (near_w ty t l r s (max w covered)) (inside_near w covered t f)) }

  -- as many as the stretch takes: the others are outside
  pub caps_full : {w covered cap c : ℕ} {bar out : List ℕ} → Caps n ty l a k r s used reach w covered cap bar → c ≡ tally n (inside_b ty (vec reach) r w) → c ≡ cap → Raised n bar ty reach r w out → Caps n ty l a k r s used reach w covered cap out
  caps_full {w} {covered} {cap} {c} {bar} {out} d e h u = record { caps = λ t pl f. let q = d.caps t pl f in (q.0, λ i m y. ⊎_elim (λ x. omega (arith, x, q.1 i m y)) (λ x. omega (arith, x.2, outside t pl f i m y x.1 q.0)) (u.each i m)) }
    where
      outside : (t : ℕ → ℕ) → Room n ty l a k r t → Fits n ty l r s used reach t → (i : ℕ) → i < n → ty i ≡ r → w < vec reach i → tally n (near_w ty t l r s (max w covered)) ≤ cap → w ≤ off l s (t i % l)
      outside t pl f i m y z q = pick (dec_lt (off l s (t i % l)) w)
        where
          pick : Dec (off l s (t i % l) < w) → w ≤ off l s (t i % l)
          pick (no x) = omega arith
          pick (yes x) = absurd (omega (
            arith,
            q,
            e,
            h,
            tally_lt n (inside_b ty (vec reach) r w) (near_w ty t l r s (max w covered)) i m
                (λ b. let d = both_true (ty i == r) (nat_le (vec reach i) w) b in let v : vec reach i ≤ w = leb-true (vec reach i) w d.1 in omega arith) (near_show t s (max w covered) i y (omega arith)) (inside_near w covered t f),
          ))

  pub caps_done : {w covered cap : ℕ} {bar : List ℕ} → Caps n ty l a k r s used reach w covered cap bar → Bars n ty l a k r s used reach bar
  caps_done q = record { safe = λ t pl f. (q.caps t pl f).1 }

pub widened_small : {cap covered a k w cap' covered' : ℕ} (u : Bool) → Widened cap covered a k u w cap' covered' → a ≤ most_operations → cap ≤ w * most_operations → cap' ≤ (w + 1) * most_operations
widened_small {cap} {covered} {a} {k} {w} {cap'} true m h q = pick (dec_lt w covered)
  where
    pick : Dec (w < covered) → cap' ≤ (w + 1) * most_operations
    pick (yes x) = omega (arith, (m.inside x).0)
    pick (no x) = omega (arith, (m.new refl (omega arith)).0)
widened_small false m h q = omega (arith, (m.unused refl).0)

pub widened_at : {cap covered a k w cap' covered' b b' : ℕ} (used : List Bool) → b ≡ b' → Widened cap covered a k (has used b) w cap' covered' → Widened cap covered a k (has used b') w cap' covered'
widened_at {cap} {covered} {a} {k} {w} {cap'} {covered'} used e m = subst (λ (x : ℕ). Widened cap covered a k (has used x) w cap' covered') e m
