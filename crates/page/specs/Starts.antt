-- What the held slots of an operation, which the page shows, tell of its start: all but a multiple of L where K is
-- below L, and nothing where K is L. Assumes nothing.
use Rattle.std.specs.Prelude.{ℕ, ◌+◌, ◌-◌, ◌%◌, ◌≤◌, ◌<◌, ◌≡◌, refl, ◌⊎◌}
use Rattle.std.proofs.Common.{mod-lt, mod-eq_of_lt, arith, sym, ap, ◌∙◌, inl, inr, ⊎_elim}
use Rattle.std.proofs.Math.Nat.{mod-add-mod, mod-eq-sub-mod}
use Rattle.std.proofs.Math.Decide.{ℕ_discrete, dec_lt}
use Rattle.held_slots.specs.Held.{off}
use Rattle.held_slots.specs.HeldLaws.{off_spec, off_below, off_held, held_off, held_below}
use Rattle.sheet.specs.declared.Sheet.{Sheet}
use Rattle.sheet.specs.Sheet.{type_of}
use Rattle.plan.specs.Rules.{Holds, slot}
use Rattle.page.specs.Shows.{ShownAlike}

-- where K is L every slot is held, whatever the start
module _ (s : Sheet) (L i : ℕ) (low : 1 ≤ L) (always : (type_of s i).busy ≡ L) where
  pub all_held : (t b : ℕ) → b < L → Holds s L i t b
  all_held t b h =
      off_held L (type_of s i).busy t b h
      (omega (arith, always, off_below L (t % L) b h (mod-lt t (omega arith))))

  -- so the page shows the instance alone
  pub start_may_not_show : (u t t' : ℕ) → ShownAlike s L i t u t' u
  start_may_not_show u t t' = record {
    held = λ b w. all_held t' b (held_below (omega arith) w);
    back = λ b w. all_held t b (held_below (omega arith) w);
    instance = refl;
  }

-- where K is below L they show the slot of the start
module _ (s : Sheet) (L i : ℕ) (some : 1 ≤ (type_of s i).busy) (less : (type_of s i).busy < L) where
  abbrev K : ℕ
  K = (type_of s i).busy

  -- K slots after a start comes one that it does not hold
  past : (t : ℕ) → Holds s L i t ((t + K) % L) → ⊥
  past t w = at (dec_lt (t % L + K) L) (off_spec L (t % L) ((t + K) % L) inside round)
    where
      round : t % L < L
      round = mod-lt t (omega arith)

      inside : (t + K) % L < L
      inside = mod-lt (t + K) (omega arith)

      near : off L (t % L) ((t + K) % L) < K
      near = held_off L K t ((t + K) % L) inside w

      here : (t % L + K) % L ≡ (t + K) % L
      here = mod-add-mod t L K

      at : Dec (t % L + K < L) → (((t + K) % L < t % L) × (off L (t % L) ((t + K) % L) ≡ (t + K) % L + L - t % L)) ⊎ ((t % L ≤ (t + K) % L) × (off L (t % L) ((t + K) % L) ≡ (t + K) % L - t % L)) → ⊥
      at (yes q) (inl x) = omega (arith, x.0, near, here, mod-eq_of_lt q)
      at (yes q) (inr x) = omega (arith, x.1, near, here, mod-eq_of_lt q)
      at (no q) x =
          let l : L ≤ t % L + K = omega arith in
          let m : t % L + K - L < L = omega (arith, round) in
          let e : (t + K) % L ≡ t % L + K - L = sym here ∙ mod-eq-sub-mod l ∙ mod-eq_of_lt m in
          ⊎_elim (λ y. omega (arith, y.1, near, e)) (λ y. omega (arith, y.0, e)) x

  pub slot_shows : (t u t' u' : ℕ) → ShownAlike s L i t u t' u' → slot L t ≡ slot L t'
  slot_shows t u t' u' q = at (ℕ_discrete there.after 0)
    where
      there : Holds s L i t' (t % L)
      there = let o : t + 0 ≡ t = omega arith in q.held (t % L) (record { after = 0; within = some; there = ap (λ (x : ℕ). x % L) o })

      at : Dec (there.after ≡ 0) → t % L ≡ t' % L
      at (yes e) = let o : t' + there.after ≡ t' = omega arith in sym there.there ∙ ap (λ (x : ℕ). x % L) o
      at (no n) =
          let a = there.after in
          let o : t' + a + (K - a) ≡ t' + K = omega (arith, there.within) in
          let e : (t + (K - a)) % L ≡ (t' + K) % L = sym (mod-add-mod t L (K - a)) ∙ ap (λ (x : ℕ). (x + (K - a)) % L) (sym there.there) ∙ mod-add-mod (t' + a) L (K - a) ∙ ap (λ (x : ℕ). x % L) o in
          absurd (past t' (q.held ((t' + K) % L) (record { after = K - a; within = omega arith; there = e })))
