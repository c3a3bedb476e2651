-- `command_lines::cells::row_line` meets its contract. The invariant: the values passed are those of the row's cells.
-- From what `cell_value` ensures, by the law of a list that is another one, number by number.
use Prim.Native.Nat.{ℕ, ◌-◌, ◌≤◌, ◌<◌}
use mathlib.Core.Path.{◌≡◌, refl, ◌∙◌}
use lib.IntN.{pos}
use lib.ListN.{length, length-set}
use Rattle.text.specs.declared.Key.TheVariants as keys
use Rattle.sizes.specs.Sizes.{most_operations}
use Rattle.laws.specs.Z.{kept, fits32}
use Rattle.laws.specs.Entry.{at}
use Rattle.laws.specs.Store.{store_more}
use Rattle.laws.specs.Each.{each_take}
use Rattle.text.specs.Joined.{line_text_lem}
use Rattle.command_lines.specs.Listing.{cell_of}
use native.Mathlib.Omega.{arith}
use borrow.Author.Rules.{rules}
use Rattle.command_lines.proofs.cells.row_line.Statement.{statement}
use Rattle.command_lines.proofs.cells.row_line.Tie as tie

abbrev invariant_loop : tie.invariant-loop-i
invariant_loop count row values₀ i₀ values i = (i ≤ most_operations) × (length values ≡ most_operations) × ((k : ℕ) → k < i → at values k ≡ cell_of (at row k))

abbrev decreases_loop : tie.decreases-loop-i
decreases_loop count row values₀ i₀ values i = most_operations - i

loop_holds : tie.Need-loop-i-init invariant_loop decreases_loop
loop_holds c = (omega arith, refl, λ k h. absurd (omega arith))

mul_cell_value : tie.Need-offset_bounds-row-i invariant_loop decreases_loop
mul_cell_value c = omega arith

array_copy_out_cell_value : tie.Need-bounds-row-i invariant_loop decreases_loop
array_copy_out_cell_value c = omega arith

cell_value_requires : tie.Need-cell_value-requires invariant_loop decreases_loop
cell_value_requires c κs = search rules

mul_values : tie.Need-offset_bounds-values-i invariant_loop decreases_loop
mul_values c = omega arith

array_set_from_values : tie.Need-bounds-values-i invariant_loop decreases_loop
array_set_from_values c = omega arith

add_i : tie.Need-overflow_step-i invariant_loop decreases_loop
add_i c = omega arith

loop_less : tie.Need-loop-i-smaller invariant_loop decreases_loop
loop_less c = omega arith

loop_again : tie.Need-loop-i-preserved invariant_loop decreases_loop
loop_again c =
    let l = c.loop-i in
    let a = c.args.row in (
      omega arith,
      length-set l.values l.i _ ∙ l.invariant.1,
      store_more (λ k z. z ≡ cell_of (at a k)) l.values l.i _ (pos 0) (omega (arith, l.invariant.1))
          (kept (fits32 c.cell_value.type_inv) ∙ c.cell_value.ensures ∙ (rw (kept (fits32 c.cell_value-arg-1.given)))) l.invariant.2,
    )

returns : tie.Need-returns invariant_loop decreases_loop
returns c =
    let l = c.loop-i in
    let a = c.args in
    line_text_lem keys.Row a.count l.values _ (each_take a.count l.values (λ j. cell_of (at a.row j)) (pos 0) (omega (arith, l.invariant.1, c.requires)) (λ k h. l.invariant.2 k (omega (arith, c.requires))))

pub row_line_spec : {M : Type 1} → statement M
row_line_spec =
    tie.close
    (tie.spec
    invariant_loop
    decreases_loop
    loop_holds
    mul_cell_value
    array_copy_out_cell_value
    cell_value_requires
    mul_values
    array_set_from_values
    add_i
    loop_less
    loop_again
    returns)
