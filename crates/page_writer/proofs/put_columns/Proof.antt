-- `page_writer::put_columns` meets its contract.
-- From what `put_column` ensures. The invariant: the columns before this one are written, up to the place reached.
use Prim.Native.Nat.{ℕ, ◌-◌, ◌≤◌}
use native.Mathlib.Omega.{arith}
use mathlib.Core.Path.{◌≡◌, sym, ap}
use Rattle.sizes.specs.Sizes.{most_instances}
use Rattle.laws.specs.Entry.{vec}
use Rattle.page_text.specs.Columns.{up_to}
use Rattle.page_text.specs.Page.{column_text}
use Rattle.text.specs.Pasting.{Pasted, pasted_none, pasted_as, pasted_then}
use Rattle.page_text.specs.Joining.{up_none, up_more}
use Rattle.page_text.specs.Widths.{columns_wide}
use borrow.Author.Rules.{rules}
use Rattle.page_writer.proofs.put_columns.Statement.{statement}
use Rattle.page_writer.proofs.put_columns.Tie as tie

abbrev invariant_loop : tie.invariant-loop-column
invariant_loop out₀ at limit users place₀ column₀ out place column =
    (column ≤ most_instances) × Pasted at (up_to column (λ a. column_text limit a (vec users.of a))) out₀ out place

abbrev decreases_loop : tie.decreases-loop-column
decreases_loop out₀ at limit users place₀ column₀ out place column = most_instances - column

loop_holds : tie.Need-loop-column-init invariant_loop decreases_loop
loop_holds c =
    let s = c in
    let a = s.args in
    let h = s.requires.1 in
    (omega arith, pasted_as (sym (up_none _)) (pasted_none a.out.now a.at (omega arith)))

mul_put_column : tie.Need-offset_bounds-users-column invariant_loop decreases_loop
mul_put_column c = search rules

element_copy_out_put_column : tie.Need-bounds-users-column invariant_loop decreases_loop
element_copy_out_put_column c = search rules

put_column_requires : tie.Need-put_column-place-requires invariant_loop decreases_loop
put_column_requires c κs =
    let s = c in
    let a = s.args in
    let l = c.loop-column in
    let t = c.loop-column-test.true in
    let p = l.invariant.1 in
    let n = columns_wide a.limit (vec a.users.of) s.requires.0 l.column (omega arith) in
    let h = s.requires.1 in
    (omega (arith, s.requires.0 l.column t), omega (arith, p.ends, p.size))

add_column : tie.Need-overflow_step-column invariant_loop decreases_loop
add_column c = search rules

loop_less : tie.Need-loop-column-smaller invariant_loop decreases_loop
loop_less c = search rules

loop_again : tie.Need-loop-column-preserved invariant_loop decreases_loop
loop_again c =
    let s = c in
    let a = s.args in
    let l = c.loop-column in
    let t = c.loop-column-test.true in
    let h = s.requires.1 in
    (omega arith, pasted_as (sym (up_more l.column (λ x. column_text a.limit x (vec a.users.of x)))) (pasted_then (omega arith) l.invariant.1 c.put_column-place.ensures))

same_length : tie.Need-shape_of-out invariant_loop decreases_loop
same_length c = c.loop-column.invariant.1.size

returns : tie.Need-returns invariant_loop decreases_loop
returns c =
    let a = c.args in
    let l = c.loop-column in
    let e : l.column ≡ most_instances = omega (arith, l.invariant.0, c.loop-column-test.false) in
    pasted_as (ap (λ (n : ℕ). up_to n (λ x. column_text a.limit x (vec a.users.of x))) e) l.invariant.1

pub put_columns_spec : {M : Type 1} → statement M
put_columns_spec =
    tie.close
    (tie.spec
    invariant_loop
    decreases_loop
    loop_holds
    mul_put_column
    element_copy_out_put_column
    put_column_requires
    add_column
    loop_less
    loop_again
    same_length
    returns)
