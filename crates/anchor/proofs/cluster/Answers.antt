-- Each operation is near the anchor by its two lags.
use Rattle.std.proofs.Common.{◌≡◌, ℕ, true, false, length-set, arith, rules}
use Rattle.std.specs.Int.{w32}
use Rattle.laws.specs.Store.{store_more}
use Rattle.laws.specs.Z.{kept, fits32}
use Rattle.task.specs.Plan.{PlanOf, lag_of}
use Rattle.relax.specs.Relax.{Within}
use Rattle.relax.proofs.Anchor.{close_near}
use Rattle.anchor.proofs.cluster.Goals as goal

pub loop-j-preserved : goal.loop-j-preserved
loop-j-preserved c =
    let p = c.args.p in
    let i = c.args.i in
    let l = c.loop-j in (
      simp length-set l.invariant.0,
      store_more (λ k z. z ≡ true → (t : ℕ → ℕ) → PlanOf p t → Within i k t) l.c l.j _ false (omega (arith, l.invariant.0, c.loop-j-test.true, c.requires.0.ops_ok))
          (close_near p i l.j c.requires.1 c.loop-j-test.true (rw (kept {w = w32} {z = lag_of p i l.j} (search (rules, fits32)), kept {w = w32} {z = lag_of p l.j i} (search (rules, fits32))) at c.close.ensures)) l.invariant.1,
    )

pub returns : goal.returns
returns c = record { near = λ k h. c.loop-j.invariant.1 k (omega (arith, c.loop-j.auto.j-end, c.loop-j-test.false)) }
