-- Laws of held slots: two starts share one exactly if the second is less than k after the first, or the first less than
-- k' after the second; starts in a stretch of k slots share one; a slot is held if it is less than k after the start.
-- Assumes nothing.
use Rattle.std.specs.Prelude.{◌≡◌, refl, Bool, true, false, cond, ◌⊎◌, ℕ, zero, suc, ◌+◌, ◌-◌, ◌*◌, ◌%◌, ◌≤◌, ◌<◌, eqb, ltb}
use Rattle.std.proofs.Common.{sym, ap, subst, ◌∙◌, inl, inr, ⊎_elim, arith, mod-lt, mod-eq_of_lt, mul-suc, eqb-true, eq-eqb, ltb-true, ltb-false, lt-ltb, le-ltb}
use Rattle.std.proofs.Math.Nat.{mod-le, mod-zero, mod-add-mod, mod-eq-sub-mod, add-mul-mod_self_right, add-mod_right}
use Rattle.std.proofs.Math.Decide.{dec_lt}
use Rattle.laws.specs.Z.{true_false}
use Rattle.laws.specs.Tests.{by_test}
use Rattle.held_slots.specs.Held.{HeldAt, Meet, Share, any_below, holds_slot, off}

-- ---- how far a slot is after another

pub off_spec : (l s b : ℕ) → b < l → s < l → ((b < s) × (off l s b ≡ b + l - s)) ⊎ ((s ≤ b) × (off l s b ≡ b - s))
off_spec l s b hb hs = go (ltb b s) refl
  where
    go : (x : Bool) → ltb b s ≡ x → ((b < s) × (cond x (b + l - s) (b - s) ≡ b + l - s)) ⊎ ((s ≤ b) × (cond x (b + l - s) (b - s) ≡ b - s))
    go true e = inl (ltb-true b s e, refl)
    go false e = inr (ltb-false b s e, refl)

-- the slot that is so far after s
off_back : (l s b : ℕ) → b < l → s < l → (s + off l s b) % l ≡ b
off_back l s b hb hs = ⊎_elim
    (λ x. let e : s + off l s b ≡ b + l = omega (arith, x.0, x.1) in ap (λ (m : ℕ). m % l) e ∙ add-mod_right b l ∙ mod-eq_of_lt hb)
    (λ x. let e : s + off l s b ≡ b = omega (arith, x.0, x.1) in ap (λ (m : ℕ). m % l) e ∙ mod-eq_of_lt hb)
    (off_spec l s b hb hs)

-- a slot that is met after d is no farther
off_least : (l s b d : ℕ) → b < l → s < l → (s + d) % l ≡ b → off l s b ≤ d
off_least l s b d hb hs e = ⊎_elim (λ x. wraps x (dec_lt (s + d) l)) (λ x. omega (arith, x.0, x.1, e, mod-le (s + d) l)) (off_spec l s b hb hs)
  where
    wraps : (b < s) × (off l s b ≡ b + l - s) → Dec (s + d < l) → off l s b ≤ d
    wraps x (yes q) = absurd (omega (arith, x.0, e, mod-eq_of_lt q))
    wraps x (no q) = let h : l ≤ s + d = omega arith in omega (arith, x.1, e, mod-eq-sub-mod h, mod-le (s + d - l) l)

-- how far a slot is after another is less than l
pub off_below : (l s b : ℕ) → b < l → s < l → off l s b < l
off_below l s b hb hs = ⊎_elim (λ x. omega (arith, x.0, x.1)) (λ x. omega (arith, x.1)) (off_spec l s b hb hs)

pub off_same : (l s : ℕ) → s < l → off l s s ≡ 0
off_same l s hs = ⊎_elim (λ x. absurd (omega (arith, x.0))) (λ x. omega (arith, x.1)) (off_spec l s s hs hs)

cancel : (l x y b : ℕ) → (x + b) % l ≡ (y + b) % l → x % l ≡ y % l
cancel zero x y b e = omega (arith, mod-zero (x + b), mod-zero (y + b), mod-zero x, mod-zero y, e)
cancel (suc m) x y b e = sym (round x) ∙ ap (λ (z : ℕ). (z + b * m) % suc m) e ∙ round y
  where
    turn : (z : ℕ) → z + b + b * m ≡ z + b * suc m
    turn z = omega (arith, mul-suc b m)

    round : (z : ℕ) → ((z + b) % suc m + b * m) % suc m ≡ z % suc m
    round z = mod-add-mod (z + b) (suc m) (b * m) ∙ ap (λ (w : ℕ). w % suc m) (turn z) ∙ add-mul-mod_self_right z b (suc m)

-- ---- two starts

pub meet_back : {l k k' t t' : ℕ} → Meet l k k' t t' → Meet l k' k t' t
meet_back m = record { at = m.at; first = m.second; second = m.first }

module _ (l k k' : ℕ) (hl : 0 < l) where
  near_meet : (t t' d : ℕ) → d < k → 0 < k' → (t % l + d) % l ≡ t' % l → Meet l k k' t t'
  near_meet t t' d h h' e = record {
    at = t' % l;
    first = record { after = d; within = h; there = sym (mod-add-mod t l d) ∙ e };
    second = record { after = 0; within = h'; there = ap (λ (x : ℕ). x % l) (plus t') };
  }
    where
      plus : (x : ℕ) → x + 0 ≡ x
      plus x = omega arith

  apart : (t t' a b : ℕ) → b ≤ a → (t + a) % l ≡ (t' + b) % l → off l (t % l) (t' % l) ≤ a
  apart t t' a b h e =
      let q : t + a ≡ t + (a - b) + b = omega arith in
      let c = cancel l (t + (a - b)) t' b (sym (ap (λ (x : ℕ). x % l) q) ∙ e) in
      omega (arith, off_least l (t % l) (t' % l) (a - b) (mod-lt t' hl) (mod-lt t hl) (mod-add-mod t l (a - b) ∙ c))

module _ (l k k' : ℕ) (hl : 0 < l) where
  -- the second less than k after the first, or the first less than k' after the second
  pub close_meet : (t t' : ℕ) → 0 < k → 0 < k' → (off l (t % l) (t' % l) < k) ⊎ (off l (t' % l) (t % l) < k') → Meet l k k' t t'
  close_meet t t' h h' = ⊎_elim
      (λ x. near_meet l k k' hl t t' _ x h' (off_back l (t % l) (t' % l) (mod-lt t' hl) (mod-lt t hl)))
      (λ x. meet_back (near_meet l k' k hl t' t _ x h (off_back l (t' % l) (t % l) (mod-lt t hl) (mod-lt t' hl))))

  pub meet_close : (t t' : ℕ) → Meet l k k' t t' → (off l (t % l) (t' % l) < k) ⊎ (off l (t' % l) (t % l) < k')
  meet_close t t' m = pick (dec_lt m.first.after m.second.after)
    where
      one : (t + m.first.after) % l ≡ (t' + m.second.after) % l
      one = m.first.there ∙ sym m.second.there

      pick : Dec (m.first.after < m.second.after) → (off l (t % l) (t' % l) < k) ⊎ (off l (t' % l) (t % l) < k')
      pick (yes q) = inr (omega (arith, apart l k' k hl t' t m.second.after m.first.after (omega arith) (sym one), m.second.within))
      pick (no q) = inl (omega (arith, apart l k k' hl t t' m.first.after m.second.after (omega arith) one, m.first.within))

-- two starts that are moved by one number, s to t and s' to t', meet as before
pub meet_moved : {l k k' : ℕ} (s s' t t' d e : ℕ) → s + d ≡ t + e → s' + d ≡ t' + e → Meet l k k' s s' → Meet l k k' t t'
meet_moved {l} {k} {k'} s s' t t' d e p q m = record {
  at = (t + m.first.after) % l;
  first = record { after = m.first.after; within = m.first.within; there = refl };
  second = record { after = m.second.after; within = m.second.within; there = cancel l (t' + m.second.after) (t + m.first.after) e (along s' t' m.second.after q ∙ level ∙ sym (along s t m.first.after p)) };
}
  where
    along : (x y a : ℕ) → x + d ≡ y + e → (y + a + e) % l ≡ (x + a + d) % l
    along x y a h = let w : y + a + e ≡ x + a + d = omega arith in ap (λ (z : ℕ). z % l) w

    level : (s' + m.second.after + d) % l ≡ (s + m.first.after + d) % l
    level = sym (mod-add-mod (s' + m.second.after) l d) ∙ ap (λ (z : ℕ). (z + d) % l) (m.second.there ∙ sym m.first.there) ∙ mod-add-mod (s + m.first.after) l d

-- at interval 0 nothing comes round: each start is its own slot
pub line_meet : (k k' t t' : ℕ) → t ≤ t' → t' - t < k → 0 < k' → Meet 0 k k' t t'
line_meet k k' t t' h g h' =
    let e : t + (t' - t) ≡ t' = omega arith in
    let o : t' + 0 ≡ t' = omega arith in
    record {
      at = t';
      first = record { after = t' - t; within = g; there = mod-zero (t + (t' - t)) ∙ e };
      second = record { after = 0; within = h'; there = mod-zero (t' + 0) ∙ o };
    }

pub meet_line : (k k' t t' : ℕ) → t ≤ t' → Meet 0 k k' t t' → t' - t < k
meet_line k k' t t' h m = omega (arith, m.first.within, m.first.there, m.second.there, mod-zero (t + m.first.after), mod-zero (t' + m.second.after))

module _ (l k : ℕ) (hl : 0 < l) where
  -- two starts less than k apart
  pub close_share : (t t' : ℕ) → (off l (t % l) (t' % l) < k) ⊎ (off l (t' % l) (t % l) < k) → Share l k t t'
  close_share t t' c = let h : 0 < k = ⊎_elim (λ x. omega (arith, x)) (λ x. omega (arith, x)) c in close_meet l k k hl t t' h h c

  -- two starts less than k apart, as seen from slot s
  pub gap_share : (s t t' : ℕ) → s < l → off l s (t % l) ≤ off l s (t' % l) → off l s (t' % l) < off l s (t % l) + k → Share l k t t'
  gap_share s t t' hs h g = near_meet l k k hl t t' (off l s (t' % l) - off l s (t % l)) (omega arith) (omega arith) (
      ap (λ (z : ℕ). (z + (off l s (t' % l) - off l s (t % l))) % l) (sym (off_back l s (t % l) (mod-lt t hl) hs))
      ∙ mod-add-mod (s + off l s (t % l)) l _
      ∙ ap (λ (z : ℕ). z % l) (sums s (off l s (t % l)) (off l s (t' % l)) h)
      ∙ off_back l s (t' % l) (mod-lt t' hl) hs)
    where
      sums : (s a b : ℕ) → a ≤ b → s + a + (b - a) ≡ s + b
      sums s a b h = omega arith

  -- two starts in a stretch of k slots
  pub stretch_share : (s t t' : ℕ) → s < l → off l s (t % l) < k → off l s (t' % l) < k → Share l k t t'
  stretch_share s t t' hs a b = pick (dec_lt (off l s (t' % l)) (off l s (t % l)))
    where
      pick : Dec (off l s (t' % l) < off l s (t % l)) → Share l k t t'
      pick (yes q) = meet_back (gap_share s t' t hs (omega arith) (omega arith))
      pick (no q) = gap_share s t t' hs (omega arith) (omega arith)

-- ---- one slot

-- a slot is held exactly if it is less than k after the start
pub off_held : (l k t b : ℕ) → b < l → off l (t % l) b < k → HeldAt l k t b
off_held l k t b hb h =
    let hl : 0 < l = omega arith in
    record { after = off l (t % l) b; within = h; there = sym (mod-add-mod t l (off l (t % l) b)) ∙ off_back l (t % l) b hb (mod-lt t hl) }

pub held_off : (l k t b : ℕ) → b < l → HeldAt l k t b → off l (t % l) b < k
held_off l k t b hb h =
    let hl : 0 < l = omega arith in
    omega (arith, h.within, off_least l (t % l) b h.after hb (mod-lt t hl) (mod-add-mod t l h.after ∙ h.there))

-- only a slot below l is
pub held_below : {l k t b : ℕ} → 0 < l → HeldAt l k t b → b < l
held_below {l} {k} {t} {b} hl h = omega (arith, h.there, mod-lt (t + h.after) hl)

-- ---- the flag of a slot

any_show : (n : ℕ) (flag : ℕ → Bool) (a : ℕ) → a < n → flag a ≡ true → any_below n flag ≡ true
unfolding any_below
any_show zero flag a h e = absurd (omega arith)
any_show (suc n) flag a h e = at (flag n) refl (λ l. any_show n flag a l e)
  where
    at : (b : Bool) → flag n ≡ b → (a < n → any_below n flag ≡ true) → cond b true (any_below n flag) ≡ true
    at true q more = refl
    at false q more = more (below a n h (λ x. true_false (sym (subst (λ (y : ℕ). flag y ≡ true) x e) ∙ q)))
      where
        below : (a n : ℕ) → a < suc n → (a ≡ n → ⊥) → a < n
        below a n h ne = pick (dec_lt a n)
          where
            pick : Dec (a < n) → a < n
            pick (yes l) = l
            pick (no l) = absurd (let x : a ≡ n = omega arith in ne x)

any_yes : (n : ℕ) (flag : ℕ → Bool) → any_below n flag ≡ true → (a : ℕ) × (a < n) × (flag a ≡ true)
unfolding any_below
any_yes zero flag e = absurd (true_false (sym e))
any_yes (suc n) flag e = at (flag n) refl e (λ z. any_yes n flag z)
  where
    at : (b : Bool) → flag n ≡ b → cond b true (any_below n flag) ≡ true
        → (any_below n flag ≡ true → (a : ℕ) × (a < n) × (flag a ≡ true)) → (a : ℕ) × (a < suc n) × (flag a ≡ true)
    at true q z more = (n, omega arith, q)
    at false q z more = let w = more z in (w.0, omega (arith, w.1), w.2)

-- the flag tells it
pub slot_held : (l k t b : ℕ) → holds_slot l k t b ≡ true → HeldAt l k t b
slot_held l k t b e =
    let w = any_yes k (λ after. eqb ((t + after) % l) b) e in
    record { after = w.0; within = w.1; there = eqb-true ((t + w.0) % l) b w.2 }

pub held_slot : (l k t b : ℕ) → HeldAt l k t b → holds_slot l k t b ≡ true
held_slot l k t b h = any_show k (λ after. eqb ((t + after) % l) b) h.after h.within (eq-eqb ((t + h.after) % l) b h.there)

-- and so does the distance from the start
pub held_flag : (l k t b : ℕ) → b < l → ltb (off l (t % l) b) k ≡ holds_slot l k t b
held_flag l k t b h = pick (dec_lt (off l (t % l) b) k)
  where
    pick : Dec (off l (t % l) b < k) → ltb (off l (t % l) b) k ≡ holds_slot l k t b
    pick (yes q) = lt-ltb (off l (t % l) b) k q ∙ sym (held_slot l k t b (off_held l k t b h q))
    pick (no q) = le-ltb (off l (t % l) b) k (omega arith) ∙ by_test (holds_slot l k t b) (λ e. absurd (q (held_off l k t b h (slot_held l k t b e)))) sym

-- ---- one slot alone: with k 1 a start holds its own

pub holds_one : (l t b : ℕ) → holds_slot l 1 t b ≡ eqb (t % l) b
unfolding any_below
holds_one l t b =
    let o : t + 0 ≡ t = omega arith in
    whole (eqb ((t + 0) % l) b) ∙ ap (λ (x : ℕ). eqb (x % l) b) o
  where
    whole : (x : Bool) → cond x true false ≡ x
    whole true = refl
    whole false = refl

pub one_held : (l t b : ℕ) → t % l ≡ b → HeldAt l 1 t b
one_held l t b e = let o : t + 0 ≡ t = omega arith in record { after = 0; within = omega arith; there = ap (λ (x : ℕ). x % l) o ∙ e }

pub held_one : (l t b : ℕ) → HeldAt l 1 t b → t % l ≡ b
held_one l t b h = let o : t ≡ t + h.after = omega (arith, h.within) in ap (λ (x : ℕ). x % l) o ∙ h.there

pub one_meet : (l t t' : ℕ) → t % l ≡ t' % l → Share l 1 t t'
one_meet l t t' e = record { at = t' % l; first = one_held l t (t' % l) e; second = one_held l t' (t' % l) (λ k. t' % l) }

pub meet_one : (l t t' : ℕ) → Share l 1 t t' → t % l ≡ t' % l
meet_one l t t' m = held_one l t m.at m.first ∙ sym (held_one l t' m.at m.second)
