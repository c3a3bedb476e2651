-- `lags::lag_row` meets its contract: the places below j hold lags, the others 0.
-- Assumes nothing.
use mathlib.Core.Path.{◌≡◌, ◌∙◌, refl}
use Prim.Native.Nat.{ℕ, ◌≤◌, ◌<◌, ◌-◌}
use native.Mathlib.Omega.{arith}
use lib.IntN.{ℤ, pos, ◌-ℤ◌}
use lib.ListN.{length, length-set, get_or-replicate}
use lib.Seq.{get_or-set_other}
use borrow.Author.Rules.{rules}
use Rattle.net.specs.Net.{highest_floor}
use Rattle.sizes.specs.Sizes.{most_operations}
use Rattle.laws.specs.Z.{kept, fits32}
use Rattle.laws.specs.Store.{store_more}
use Rattle.laws.specs.Entry.{at, vec}
use Rattle.lags.proofs.lag_row.Statement.{statement}
use Rattle.lags.proofs.lag_row.Tie as tie

abbrev invariant_loop : tie.invariant-loop-j
invariant_loop ops starts out₀ j₀ out j = (j ≤ ops) × (length out ≡ most_operations) × ((x : ℕ) → x < j → at out x ≡ pos (vec starts x) -ℤ pos highest_floor) × ((x : ℕ) → j ≤ x → x < most_operations → at out x ≡ pos 0)

abbrev decreases_loop : tie.decreases-loop-j
decreases_loop ops starts out₀ j₀ out j = ops - j

loop_holds : tie.Need-loop-j-init invariant_loop decreases_loop
loop_holds c = (omega arith, refl, λ x h. absurd (omega arith), λ x _ h. get_or-replicate {A = ℤ} most_operations x (pos 0) (pos 0) h)

mul_lag : tie.Need-offset_bounds-starts-j invariant_loop decreases_loop
mul_lag c = search rules

array_read_lag : tie.Need-bounds-starts-j invariant_loop decreases_loop
array_read_lag c = search rules

lag_requires : tie.Need-lag-requires invariant_loop decreases_loop
lag_requires c κs = c.before.before.requires.1 _ (omega (arith, c.before.before.requires.0, c.loop-j-test.true))

mul_out : tie.Need-offset_bounds-out-j invariant_loop decreases_loop
mul_out c = search rules

array_set_from_out : tie.Need-bounds-out-j invariant_loop decreases_loop
array_set_from_out c = search rules

add_j : tie.Need-overflow_step-j invariant_loop decreases_loop
add_j c = search rules

loop_less : tie.Need-loop-j-smaller invariant_loop decreases_loop
loop_less c = search rules

loop_again : tie.Need-loop-j-preserved invariant_loop decreases_loop
loop_again c = let l = c.before.before.loop-j in
    let s = c.before.before.before in (
      omega (arith, c.before.loop-j-test.true),
      simp length-set l.invariant.1,
      store_more (λ k z. z ≡ pos (vec s.args.starts k) -ℤ pos highest_floor) l.out l.j _ (pos 0) (omega (arith, l.invariant.1, s.requires.0, c.before.loop-j-test.true)) (kept (fits32 c.lag.type_inv) ∙ c.lag.ensures) l.invariant.2,
      λ x a h. get_or-set_other l.out l.j x _ (pos 0) (λ q. absurd (omega (arith, a, q))) ∙ l.invariant.3 x (omega (arith, a)) h,
    )

returns : tie.Need-returns invariant_loop decreases_loop
returns c = let l = c.before.loop-j in
    record { lag = λ x h. l.invariant.2 x (omega (arith, c.loop-j-test.false)); rest = λ x h k. l.invariant.3 x (omega (arith, l.invariant.0)) k }

pub lag_row_spec : {M : Type 1} → statement M
lag_row_spec =
    tie.close
    (tie.spec
    invariant_loop
    decreases_loop
    loop_holds
    mul_lag
    array_read_lag
    lag_requires
    mul_out
    array_set_from_out
    add_j
    loop_less
    loop_again
    returns)
