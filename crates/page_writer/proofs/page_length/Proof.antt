-- `page_writer::page_length` meets its contract.
-- From what `type_length` ensures. The invariant: the sum over the types before r.
use Prim.Native.Nat.{◌+◌, ◌-◌, ◌≤◌}
use native.Mathlib.Omega.{arith}
use mathlib.Core.Path.{◌≡◌, ap, ◌∙◌}
use Rattle.laws.specs.Count.{total_none, total_more}
use Rattle.sheet.specs.Sheet.{type_at}
use Rattle.sheet.specs.Facts.{types_most}
use Rattle.page_text.specs.Widths.{type_length, few_slots, length_to, length_most}
use borrow.Author.Rules.{rules}
use Rattle.page_writer.proofs.page_length.Statement.{statement}
use Rattle.page_writer.proofs.page_length.Tie as tie

abbrev invariant_loop : tie.invariant-loop-r
invariant_loop interval sheet count total₀ r₀ total r = (r ≤ count) × (total ≡ length_to sheet interval r)

abbrev decreases_loop : tie.decreases-loop-r
decreases_loop interval sheet count total₀ r₀ total r = count - r

loop_holds : tie.Need-loop-r-init invariant_loop decreases_loop
loop_holds c = (omega arith, total_none _)

mul_kind : tie.Need-offset_bounds-sheet-r invariant_loop decreases_loop
mul_kind c = let h = types_most c.requires.sheet in search rules

element_copy_out_kind : tie.Need-bounds-sheet-r invariant_loop decreases_loop
element_copy_out_kind c = let h = types_most c.requires.sheet in search rules

type_length_requires : tie.Need-type_length-total-requires invariant_loop decreases_loop
type_length_requires c κs = few_slots c.requires

add_total : tie.Need-overflow_add-total invariant_loop decreases_loop
add_total c =
    let s = c in
    let l = c.loop-r in
    let t = c.loop-r-test.true in
    let m = types_most s.requires.sheet in
    let e = total_more l.r (λ q. type_length s.args.interval (type_at s.args.sheet q).instances) in
    omega (arith, e, c.type_length-total.ensures, l.invariant.1, length_most s.requires (l.r + 1) (omega arith))

add_r : tie.Need-overflow_step-r invariant_loop decreases_loop
add_r c = search rules

loop_less : tie.Need-loop-r-smaller invariant_loop decreases_loop
loop_less c = search rules

loop_again : tie.Need-loop-r-preserved invariant_loop decreases_loop
loop_again c =
    let s = c in
    let l = c.loop-r in
    let t = c.loop-r-test.true in
    let e = total_more l.r (λ q. type_length s.args.interval (type_at s.args.sheet q).instances) in
    (omega arith, omega (arith, e, c.type_length-total.ensures, l.invariant.1))

returns : tie.Need-returns invariant_loop decreases_loop
returns c =
    let s = c in
    let l = c.loop-r in
    let e : l.r ≡ s.args.sheet.type_count = omega (arith, l.invariant.0, c.loop-r-test.false) in
    l.invariant.1 ∙ ap (length_to s.args.sheet s.args.interval) e

pub page_length_spec : {M : Type 1} → statement M
page_length_spec =
    tie.close
    (tie.spec
    invariant_loop
    decreases_loop
    loop_holds
    mul_kind
    element_copy_out_kind
    type_length_requires
    add_total
    add_r
    loop_less
    loop_again
    returns)
