use Rattle.std.proofs.Common.{◌≡◌, Bool, true, false, refl, List, ℕ, ◌+◌, ◌-◌, ◌≤◌, ◌<◌, length-set, arith}
use Rattle.std.proofs.Math.Decide.{dec_lt}
use Rattle.sizes.specs.Sizes.{most_starts}
use Rattle.laws.specs.Store.{store}
use Rattle.domain.specs.Domain.{has}
use Rattle.support.specs.Support.{Earlier, Later}
use Rattle.support.proofs.rows.next_starts.Goals as goal

-- the next start from t on is t itself, or the one after it
later : {q : List Bool} (t : ℕ) {n k v r : ℕ} (b : Bool) → has q t ≡ b → k ≤ t + most_starts → n ≤ t + 1 → Earlier b k v r → Later q n v → Later q t r
later {q} t {n} {k} {v} {r} b is h m e l = record { upto = λ x a y z. from b is e x a y z (dec_lt t x) }
  where
    from : (b : Bool) → has q t ≡ b → Earlier b k v r → (x : ℕ) → t ≤ x → x < most_starts → has q x ≡ true → Dec (t < x) → r ≤ x + most_starts
    from true is e x a y z d = omega (arith, e.yes refl, h, a)
    from false is e x a y z (yes d) = omega (arith, e.no refl, l.upto x (omega (arith, m, d)) y z)
    from false is e x a y z (no d) = let same : x ≡ t = omega (arith, a, d) in cc

pub loop-t-preserved : goal.loop-t-preserved
loop-t-preserved c =
    let l = c.loop-t in
    let late : Later c.args.row (l.t - 1) c.earlier-later.result =
    later (l.t - 1) _ refl (omega arith) (omega (arith, c.loop-t-test.true)) c.earlier-later.ensures l.invariant.1 in (
      record {
        upto = λ k a. store (λ k v. (x : ℕ) → k ≤ x + most_starts → x < most_starts → has c.args.row x ≡ true → v ≤ x + most_starts) l.next (l.t - 1 + most_starts) c.earlier-later.result 0
            (omega (arith, l.invariant.2, c.loop-t-test.true, c.loop-t.auto.t)) (λ x b y z. late.upto x (omega (arith, b)) y z) k (λ n. l.invariant.0.upto k (omega (arith, a, n)));
      },
      late,
      simp length-set l.invariant.2,
    )
