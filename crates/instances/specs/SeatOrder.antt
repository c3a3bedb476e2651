-- The first instances type by type, put together, come before every other choice for the same starts: at the first
-- operation where they differ only its own type matters. Assumes nothing.
use Rattle.std.specs.Prelude.{◌≡◌, refl, ◌⊎◌, ℕ, zero, suc, ◌<◌, ◌≤◌}
use Rattle.std.proofs.Common.{sym, subst, ◌∙◌, inl, inr, ⊎_elim, arith}
use Rattle.std.proofs.Math.Decide.{ℕ_discrete, dec_lt}
use Rattle.sizes.specs.Sizes.{most_types}
use Rattle.domain.specs.Domain.{Before}
use Rattle.held_slots.specs.Seated.{SeatedIn}
use Rattle.instances.specs.Seats.{FirstFor, Seats}

module _ (n : ℕ) (ty limit busy : ℕ → ℕ) (l : ℕ) (t u : ℕ → ℕ) (small : (i : ℕ) → i < n → ty i < most_types) (s : Seats n ty limit busy l t u)
    (w : ℕ → ℕ) (seated : (r : ℕ) → r < most_types → 0 < limit r → SeatedIn n ty l (limit r) (busy r) r t w) (unlimited : (i : ℕ) → i < n → limit (ty i) ≡ 0 → w i ≡ 0) where
  -- at the first operation where they differ, u is smaller
  smaller : (m : ℕ) → m < n → ((v : ℕ) → v < m → u v ≡ w v) → (u m ≡ w m → ⊥) → u m < w m
  smaller m h same ne = pick (dec_lt 0 (limit (ty m)))
    where
      at : FirstFor n ty (ty m) u w → u m < w m
      at f = ⊎_elim (λ e. absurd (ne (e m h refl))) (λ x. where_it_is x (ℕ_discrete x.0 m) (dec_lt x.0 m)) f.case
        where
          where_it_is : (x : (k : ℕ) × (k < n) × (ty k ≡ ty m) × (u k < w k) × ((i : ℕ) → i < k → ty i ≡ ty m → u i ≡ w i)) → Dec (x.0 ≡ m) → Dec (x.0 < m) → u m < w m
          where_it_is x (yes e) d = subst (λ (k : ℕ). u k < w k) e x.3
          where_it_is x (no e) (yes d) = absurd (omega (arith, x.3, same x.0 d))
          where_it_is x (no e) (no d) = absurd (ne (x.4 m (omega arith) refl))

      pick : Dec (0 < limit (ty m)) → u m < w m
      pick (yes q) = at ((s.limited (ty m) (small m h) q).first w (seated (ty m) (small m h) q))
      pick (no q) = let e : limit (ty m) ≡ 0 = omega arith in absurd (ne (s.unlimited m h e ∙ sym (unlimited m h e)))

  agree : (m : ℕ) → m ≤ n → ((v : ℕ) → v < m → u v ≡ w v) ⊎ ((k : ℕ) × (k < n) × (u k < w k) × ((v : ℕ) → v < k → u v ≡ w v))
  agree zero h = inl (λ v q. absurd (omega arith))
  agree (suc m) h = ⊎_elim (λ same. at same (ℕ_discrete (u m) (w m))) (λ x. inr x) (agree m (omega arith))
    where
      at : ((v : ℕ) → v < m → u v ≡ w v) → Dec (u m ≡ w m) → ((v : ℕ) → v < suc m → u v ≡ w v) ⊎ ((k : ℕ) × (k < n) × (u k < w k) × ((v : ℕ) → v < k → u v ≡ w v))
      at same (yes e) = inl (λ v q. one v q (ℕ_discrete v m))
        where
          one : (v : ℕ) → v < suc m → Dec (v ≡ m) → u v ≡ w v
          one v q (yes x) = subst (λ (k : ℕ). u k ≡ w k) (sym x) e
          one v q (no x) = same v (omega arith)
      at same (no e) = inr (m, omega arith, smaller m (omega arith) same e, same)

  pub seats_before : Before n u w
  seats_before = record { case = agree n (omega arith) }
