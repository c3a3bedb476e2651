-- That a plan is one of the task at a coarser interval. At m, which divides the interval, an operation's new instance
-- tells its instance at the interval and in which of the interval's parts of m slots it starts. Assumes nothing.
use Rattle.std.specs.Prelude.{◌≡◌, refl, List, ℕ, ◌+◌, ◌*◌, ◌/◌, ◌%◌, ◌≤◌, ◌<◌}
use Rattle.std.proofs.Math.Path.{sym, ap}
use Rattle.std.proofs.Common.{subst, ◌∙◌, ⊎_elim, arith, mod-lt, mod-eq_of_lt, div-add-mod', div-lt_iff_lt-mul, one-mul}
use Rattle.std.proofs.Math.Nat.{mod-mod_of_dvd, dvd_of_mod-eq-zero, add-mul-div_right, div-eq_of_lt, mul-le-mul_right, add-mul}
use Rattle.std.proofs.Math.Decide.{dec_lt}
use Rattle.sizes.specs.Sizes.{most_operations, most_types, most_instances}
use Rattle.laws.specs.Entry.{vec}
use Rattle.held_slots.specs.HeldLaws.{one_meet, meet_one}
use Rattle.held_slots.specs.Seated.{SeatedIn}
use Rattle.task.specs.declared.Task.{Task}
use Rattle.task.specs.Plan.{TaskOk, PlanOf, type_of, instances_of, busy_of}
use Rattle.relax.specs.Relax.{Relaxed, Limits, coarsened}

module _ (l m : ℕ) (hm : 0 < m) (hl : 0 < l) (z : l % m ≡ 0) where
  whole : l ≡ l / m * m
  whole = omega (arith, div-add-mod' l m, z)

  part : (x : ℕ) → (x % l) / m < l / m
  part x = (div-lt_iff_lt-mul hm).1 (subst (λ (y : ℕ). x % l < y) whole (mod-lt x hl))

  -- the part and the slot within it are the slot
  slot : (x y : ℕ) → (x % l) / m ≡ (y % l) / m → x % m ≡ y % m → x % l ≡ y % l
  slot x y e f =
      let a = mod-mod_of_dvd m x (dvd_of_mod-eq-zero m z) in
      let b = mod-mod_of_dvd m y (dvd_of_mod-eq-zero m z) in
      omega (arith, div-add-mod' (x % l) m, div-add-mod' (y % l) m, ap (λ (w : ℕ). w * m) e, a, b, f)

  -- of x + y × c, with x below c: y, and then x
  first : (c x y : ℕ) → x < c → (x + y * c) / c ≡ y
  first c x y h = omega (arith, add-mul-div_right x y {z = c} (omega arith), div-eq_of_lt h)

  second : (c x y x' y' : ℕ) → y ≡ y' → x + y * c ≡ x' + y' * c → x ≡ x'
  second c x y x' y' e f = omega (arith, ap (λ (w : ℕ). w * c) e, f)

  module _ (n : ℕ) (ty : ℕ → ℕ) (a r : ℕ) (t u : ℕ → ℕ) (s : SeatedIn n ty l a 1 r t u) where
    -- the instance at m
    pub place : ℕ → ℕ
    place i = (t i % l) / m + u i * (l / m)

    pub places : SeatedIn n ty m (a * (l / m)) 1 r t place
    unfolding place
    places = record {
      below = λ i h q. omega (arith, part (t i), mul-le-mul_right {m = u i + 1} {n = a} (l / m) (omega (arith, s.below i h q)), more (u i) (l / m));
      apart = λ i j h k q e.
          let f : u i ≡ u j = sym (first (l / m) _ (u i) (part (t i))) ∙ ap (λ (w : ℕ). w / (l / m)) e ∙ first (l / m) _ (u j) (part (t j)) in
          s.apart i j h k (record { different = q.different; first = q.first; second = q.second; share = one_meet l (t i) (t j) (slot (t i) (t j) (second (l / m) _ (u i) _ (u j) f e) (meet_one m (t i) (t j) q.share)) }) f;
    }
      where
        more : (x y : ℕ) → (x + 1) * y ≡ x * y + y
        more x y = add-mul x 1 y ∙ ap (λ (w : ℕ). x * y + w) (one-mul y)

-- as many instances as operations are enough
each_own : (n : ℕ) (ty : ℕ → ℕ) (l k r : ℕ) (t : ℕ → ℕ) → n ≤ most_operations → SeatedIn n ty l most_operations k r t (λ i. i)
each_own n ty l k r t h = record { below = λ i q _. omega arith; apart = λ i j _ _ q e. q.different e }

module _ (p : Task) (ok : TaskOk p) (m : ℕ) (hm : 0 < m) (z : p.interval % m ≡ 0) (out : List ℕ) (lim : Limits p (p.interval / m) out) where
  below : m ≤ p.interval
  below = pick (dec_lt p.interval m)
    where
      pick : Dec (p.interval < m) → m ≤ p.interval
      pick (yes h) = absurd (omega (arith, mod-eq_of_lt h, z, ok.interval_ok))
      pick (no h) = omega arith

  -- a type that stays busy for more than a slot has no limit
  unlimited : (r : ℕ) → r < most_types → 1 < busy_of p r → vec out r ≤ most_instances
  unlimited r h b = pick (dec_lt 0 (vec out r))
    where
      pick : Dec (0 < vec out r) → vec out r ≤ most_instances
      pick (yes q) = absurd (omega (arith, (lim.each r h).one_slot q, b))
      pick (no q) = omega arith

  coarse_ok : TaskOk (coarsened p m out)
  coarse_ok = record {
    ops_ok = ok.ops_ok;
    interval_ok = hm;
    interval_max = omega (arith, below, ok.interval_max);
    lag_ok = ok.lag_ok;
    instances_ok = λ r h. (lim.each r h).most;
    instances_busy = unlimited;
    busy_some = ok.busy_some;
    busy_ok = ok.busy_ok;
  }

  -- a plan at the interval L is one at m with A × L / m instances
  pub coarse_plan : (t : ℕ → ℕ) → PlanOf p t → PlanOf (coarsened p m out) t
  coarse_plan t h = record {
    lags = h.lags;
    seated = λ r q b. let w = lim.each r q in
        subst (λ (k : ℕ). (u : ℕ → ℕ) × SeatedIn p.ops (type_of p) m (vec out r) k r t u) (sym (w.one_slot b))
        (⊎_elim (parts r q (w.limited b) (w.one_slot b)) (λ e. ((λ i. i), subst (λ (a : ℕ). SeatedIn p.ops (type_of p) m a 1 r t (λ i. i)) (sym e) (each_own p.ops (type_of p) m 1 r t ok.ops_ok))) (w.total b));
  }
    where
      parts : (r : ℕ) → r < most_types → 0 < instances_of p r → busy_of p r ≡ 1 → vec out r ≡ instances_of p r * (p.interval / m) → (u : ℕ → ℕ) × SeatedIn p.ops (type_of p) m (vec out r) 1 r t u
      parts r q b one e =
          let s = h.seated r q b in
          let g = subst (λ (k : ℕ). SeatedIn p.ops (type_of p) p.interval (instances_of p r) k r t s.0) one s.1 in
          let u = place p.interval m hm ok.interval_ok z p.ops (type_of p) (instances_of p r) r t s.0 g in
          (u, subst (λ (a : ℕ). SeatedIn p.ops (type_of p) m a 1 r t u) (sym e) (places p.interval m hm ok.interval_ok z p.ops (type_of p) (instances_of p r) r t s.0 g))

  pub coarse_relaxed : Relaxed p (coarsened p m out)
  coarse_relaxed = record { task_ok = coarse_ok; ops_same = refl; kept = coarse_plan }
