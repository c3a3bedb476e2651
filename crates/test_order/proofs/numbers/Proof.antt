-- `test_order::numbers` is safe and ends: i is at most the length of the list.
-- Assumes nothing.
use Prim.Native.Nat.{◌≤◌, ◌-◌}
use borrow.Author.Rules.{rules}
use Rattle.test_order.proofs.numbers.Statement.{statement}
use Rattle.test_order.proofs.numbers.Tie as tie

abbrev invariant_loop : tie.invariant-loop-i
invariant_loop s list₀ i₀ list i = i ≤ 24

abbrev decreases_loop : tie.decreases-loop-i
decreases_loop s list₀ i₀ list i = 24 - i

loop_holds : tie.Need-loop-i-init invariant_loop decreases_loop
loop_holds c = search rules

shared_slice_read_number : tie.Need-bounds-s-i invariant_loop decreases_loop
shared_slice_read_number c = search rules

number_requires : tie.Need-number-requires invariant_loop decreases_loop
number_requires c κs = search rules

mul_list : tie.Need-offset_bounds-list-i invariant_loop decreases_loop
mul_list c = search rules

array_write_list : tie.Need-bounds-list-i invariant_loop decreases_loop
array_write_list c = search rules

add_i : tie.Need-overflow_add-i invariant_loop decreases_loop
add_i c = search rules

loop_less : tie.Need-loop-i-smaller invariant_loop decreases_loop
loop_less c = search rules

loop_again : tie.Need-loop-i-preserved invariant_loop decreases_loop
loop_again c = search rules

returns : tie.Need-returns invariant_loop decreases_loop
returns c = search rules

pub numbers_spec : {M : Type 1} → statement M
numbers_spec =
    tie.close
    (tie.spec
    invariant_loop
    decreases_loop
    loop_holds
    shared_slice_read_number
    number_requires
    mul_list
    array_write_list
    add_i
    loop_less
    loop_again
    returns)
