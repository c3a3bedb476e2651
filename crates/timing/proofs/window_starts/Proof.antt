-- `timing::window_starts` meets its contract. The invariant: each entry below i is the lo of its operation.
-- Assumes nothing.
use mathlib.Core.Path.{◌≡◌, refl, sym, ap, ◌∙◌}
use mathlib.Core.List.{List}
use Prim.Native.Nat.{ℕ, ◌≤◌, ◌<◌, ◌-◌}
use native.Mathlib.Decide.{dec_lt}
use native.Mathlib.Omega.{arith}
use lib.ListN.{get_or, length, length-set, get_or-eq_default}
use borrow.Author.Rules.{rules}
use Rattle.sizes.specs.Sizes.{most_operations}
use Rattle.laws.specs.Entry.{vec}
use Rattle.laws.specs.Store.{store_more}
use Rattle.sheet.specs.declared.Operation.{Operation}
use Rattle.sheet.specs.Sheet.{no_operation}
use Rattle.timing.proofs.window_starts.Statement.{statement}
use Rattle.timing.proofs.window_starts.Tie as tie

abbrev invariant_loop : tie.invariant-loop-i
invariant_loop ops floor₀ i₀ floor i = (i ≤ most_operations) × (length floor ≡ most_operations) × ((x : ℕ) → x < i → vec floor x ≡ (get_or ops x no_operation).lo)

abbrev decreases_loop : tie.decreases-loop-i
decreases_loop ops floor₀ i₀ floor i = most_operations - i

-- past both arrays both are 0
whole : (ops : List Operation) (floor : List ℕ) → length ops ≡ most_operations → length floor ≡ most_operations
    → ((x : ℕ) → x < most_operations → vec floor x ≡ (get_or ops x no_operation).lo) → (x : ℕ) → vec floor x ≡ (get_or ops x no_operation).lo
whole ops floor n m below x = pick (dec_lt x most_operations)
  where
    pick : Dec (x < most_operations) → vec floor x ≡ (get_or ops x no_operation).lo
    pick (yes h) = below x h
    pick (no h) = get_or-eq_default floor 0 (omega arith) ∙ sym (ap (λ (o : Operation). o.lo) (get_or-eq_default ops no_operation (omega arith)))

loop_holds : tie.Need-loop-i-init invariant_loop decreases_loop
loop_holds c = (omega arith, refl, λ x h. absurd (omega arith))

mul_op : tie.Need-offset_bounds-ops-i invariant_loop decreases_loop
mul_op c = search rules

array_copy_out_op : tie.Need-bounds-ops-i invariant_loop decreases_loop
array_copy_out_op c = search rules

mul_floor : tie.Need-offset_bounds-floor-i invariant_loop decreases_loop
mul_floor c = search rules

array_write_floor : tie.Need-bounds-floor-i invariant_loop decreases_loop
array_write_floor c = search rules

add_i : tie.Need-overflow_step-i invariant_loop decreases_loop
add_i c = search rules

loop_less : tie.Need-loop-i-smaller invariant_loop decreases_loop
loop_less c = search rules

loop_again : tie.Need-loop-i-preserved invariant_loop decreases_loop
loop_again c =
    let l = c.loop-i in
    let ops = c.args.ops in
    (omega arith, simp length-set l.invariant.1, store_more (λ x z. z ≡ (get_or ops x no_operation).lo) l.floor l.i _ 0 (omega (arith, l.invariant.1)) refl l.invariant.2)

returns : tie.Need-returns invariant_loop decreases_loop
returns c =
    let l = c.loop-i in
    let ops = c.args.ops in
    let n : length ops ≡ most_operations = search rules in
    record { each = whole ops l.floor n l.invariant.1 (λ x h. l.invariant.2 x (omega arith)) }

pub window_starts_spec : {M : Type 1} → statement M
window_starts_spec =
    tie.close
    (tie.spec
    invariant_loop
    decreases_loop
    loop_holds
    mul_op
    array_copy_out_op
    mul_floor
    array_write_floor
    add_i
    loop_less
    loop_again
    returns)
