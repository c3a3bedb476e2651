-- That a plan's cluster, moved to one place, is a plan of the task that has forgotten all else: all its starts are
-- moved by one number, so differences stay, and so does which of them hold a slot in common. Assumes nothing.
use Rattle.std.specs.Prelude.{◌≡◌, refl, Bool, true, false, cond, List, ℕ, ◌+◌, ◌-◌, ◌*◌, ◌<◌, ℤ, pos, ◌+ℤ◌, ◌≤ℤ◌, eqb}
use Rattle.std.proofs.Common.{sym, ap, subst, ◌∙◌, ⊎_elim, arith, eqb-true}
use Rattle.sizes.specs.Sizes.{most_operations, most_types, most_starts}
use Rattle.laws.specs.Entry.{vec, at}
use Rattle.laws.specs.Tests.{by_test}
use Rattle.laws.specs.Z.{zed, sum}
use Rattle.domain.specs.Domain.{has, row_of, In}
use Rattle.held_slots.specs.HeldLaws.{meet_moved}
use Rattle.task.specs.declared.Task.{Task}
use Rattle.task.specs.Plan.{TaskOk, PlanOf, SmallLag, type_of, lag_of}
use Rattle.relax.specs.Relax.{anchor, no_lag, Close, Within, Cluster, InnerTypes, InnerLag, InnerLags, inner, moved, Anchored, AnchorRows}

-- lags that reach back no farther than `reach`, both ways
pub close_near : (p : Task) (i j : ℕ) {r : Bool} → i < p.ops → j < p.ops → Close (eqb i j) (lag_of p i j) (lag_of p j i) r → r ≡ true → (t : ℕ → ℕ) → PlanOf p t → Within i j t
close_near p i j hi hj c e t h = ⊎_elim
    (λ s. let q = ap t (eqb-true i j s) in (omega (arith, q), omega (arith, q)))
    (λ s. (omega (arith, zed, h.lags i hi j hj, s.0, sum (pos (t i)) (lag_of p i j)), omega (arith, zed, h.lags j hj i hi, s.1, sum (pos (t j)) (lag_of p j i))))
    (c.yes e)

module _ (c : List Bool) (i : ℕ) (t : ℕ → ℕ) where
  moved_in : (j : ℕ) → has c j ≡ true → moved c i t j ≡ t j + anchor - t i
  moved_in j e = ap (λ (b : Bool). cond b (t j + anchor - t i) 0) e

  moved_out : (j : ℕ) → has c j ≡ false → moved c i t j ≡ 0
  moved_out j e = ap (λ (b : Bool). cond b (t j + anchor - t i) 0) e

module _ (p : Task) (ok : TaskOk p) (i : ℕ) (hi : i < p.ops) (c : List Bool) (near : Cluster p i c) where
  module _ (t : ℕ → ℕ) (h : PlanOf p t) where
    -- where an operation of the cluster is moved to
    to : (j : ℕ) → j < p.ops → has c j ≡ true → (t j + anchor ≡ moved c i t j + t i) × (moved c i t j < most_starts)
    to j l e = let q = near.near j l e t h in let m = moved_in c i t j e in (omega (arith, q.0, m), omega (arith, q.1, m))

    small : (j : ℕ) → j < p.ops → moved c i t j < most_starts
    small j l = by_test (has c j) (λ e. (to j l e).1) (λ e. omega (arith, moved_out c i t j e))

    -- the moved starts are in the first domain
    pub moved_inside : {d : List (List Bool)} → AnchorRows i c d → In p.ops d (moved c i t)
    moved_inside {d} a = record {
      small = small;
      allowed = λ j l. let w = a.row j (omega (arith, ok.ops_ok)) in by_test (has c j)
          (λ e. by_test (eqb i j) (λ f. subst (λ (x : ℕ). has (row_of d j) x ≡ true) (there j l e f) (w.here e f)) (λ f. w.any e f (moved c i t j) (small j l)))
          (λ e. subst (λ (x : ℕ). has (row_of d j) x ≡ true) (sym (moved_out c i t j e)) (w.outside e));
    }
      where
        there : (j : ℕ) → j < p.ops → has c j ≡ true → eqb i j ≡ true → anchor ≡ moved c i t j
        there j l e f = let s = ap t (eqb-true i j f) in omega (arith, s, (to j l e).0)

  module _ (resource : List ℕ) (lag : List ℤ) (pairs : List Bool) (k : InnerTypes p.ops c p.resource resource) (g : InnerLags c p.lag lag) where
    lag_at_lem : (a b : ℕ) → a < p.ops → b < p.ops → InnerLag (has c a) (has c b) (lag_of p a b) (at lag (a * most_operations + b))
    lag_at_lem a b ha hb = g.each a b (omega (arith, ok.ops_ok)) (omega (arith, ok.ops_ok))

    inner_ok : TaskOk (inner p resource lag pairs)
    inner_ok = record {
      ops_ok = ok.ops_ok;
      interval_ok = ok.interval_ok;
      interval_max = ok.interval_max;
      lag_ok = λ a b ha hb. ⊎_elim
          (λ e. subst SmallLag (sym e) (record { low = omega (arith, zed); high = omega (arith, zed) }))
          (λ e. subst SmallLag (sym e.2) (ok.lag_ok a b ha hb))
          (lag_at_lem a b ha hb).case;
      instances_ok = ok.instances_ok;
      instances_busy = ok.instances_busy;
      busy_some = ok.busy_some;
      busy_ok = ok.busy_ok;
    }

    -- an operation that has a type is in the cluster
    typed : (j r : ℕ) → j < p.ops → r < most_types → vec resource j ≡ r → (has c j ≡ true) × (type_of p j ≡ r)
    typed j r l h e = ⊎_elim (λ q. absurd (omega (arith, q, e))) (λ q. (q.0, sym q.1 ∙ e)) (k.each j l).case

    -- a plan, moved, is one of the cluster
    pub anchored_plan : (t : ℕ → ℕ) → PlanOf p t → PlanOf (inner p resource lag pairs) (moved c i t)
    anchored_plan t h = record {
      lags = λ a ha b hb. ⊎_elim
          (λ e. subst (Keeps a b) (sym e) (nothing (moved c i t a) (moved c i t b) (small t h a ha)))
          (λ e. subst (Keeps a b) (sym e.2) (shifted (moved c i t a) (moved c i t b) (t a) (t b) (t i) (lag_of p a b) (to t h a ha e.0).0 (to t h b hb e.1).0 (h.lags a ha b hb)))
          (lag_at_lem a b ha hb).case;
      seated = λ r hr ha. let s = h.seated r hr ha in (
        s.0,
        record {
          below = λ j l e. s.1.below j l (typed j r l hr e).1;
          apart = λ a b la lb x. let q = typed a r la hr x.first in let w = typed b r lb hr x.second in
              s.1.apart a b la lb (record { different = x.different; first = q.1; second = w.1; share = meet_moved (moved c i t a) (moved c i t b) (t a) (t b) (t i) anchor (sym (to t h a la q.0).0) (sym (to t h b lb w.0).0) x.share });
        },
      );
    }
      where
        Keeps : ℕ → ℕ → ℤ → Type 0
        Keeps a b z = (pos (moved c i t a) +ℤ z) ≤ℤ pos (moved c i t b)

        nothing : (x y : ℕ) → x < most_starts → (pos x +ℤ no_lag) ≤ℤ pos y
        nothing x y l = omega (arith, zed, sum (pos x) no_lag)

        shifted : (x y x' y' d : ℕ) (z : ℤ) → x' + anchor ≡ x + d → y' + anchor ≡ y + d → (pos x' +ℤ z) ≤ℤ pos y' → (pos x +ℤ z) ≤ℤ pos y
        shifted x y x' y' d z e f q = omega (arith, zed, q, sum (pos x) z, sum (pos x') z)

    pub anchored : Anchored p i c (inner p resource lag pairs)
    anchored = record { task_ok = inner_ok; ops_same = refl; kept = anchored_plan }
