-- `page_writer::put_page` meets its contract.
-- From what `put_type` ensures. The invariant: the lines of the types before r are written, up to the place reached.
use Prim.Native.Nat.{◌+◌, ◌-◌, ◌≤◌}
use native.Mathlib.Omega.{arith}
use mathlib.Core.Path.{◌≡◌, sym, ap, ◌∙◌}
use Rattle.laws.specs.Count.{total_more, total_grows}
use Rattle.sheet.specs.Sheet.{type_at}
use Rattle.sheet.specs.Facts.{types_most}
use Rattle.page_text.specs.Page.{type_text}
use Rattle.text.specs.Pasting.{Pasted, pasted_none, pasted_as, pasted_then, pasted_front}
use Rattle.page_text.specs.Joining.{up_none, up_more}
use Rattle.page_text.specs.Widths.{type_length, lines_to, lines_long, page_lines}
use borrow.Author.Rules.{rules}
use Rattle.page_writer.proofs.put_page.Statement.{statement}
use Rattle.page_writer.proofs.put_page.Tie as tie

abbrev invariant_loop : tie.invariant-loop-r
invariant_loop out₀ sheet interval table count place₀ r₀ out place r = (r ≤ count) × Pasted 0 (lines_to sheet interval table r) out₀ out place

abbrev decreases_loop : tie.decreases-loop-r
decreases_loop out₀ sheet interval table count place₀ r₀ out place r = count - r

loop_holds : tie.Need-loop-r-init invariant_loop decreases_loop
loop_holds c = (omega arith, pasted_as (sym (up_none _)) (pasted_none c.args.out.now 0 (omega arith)))

put_type_requires : tie.Need-put_type-place-requires invariant_loop decreases_loop
put_type_requires c κs =
    let s = c in
    let a = s.args in
    let l = c.loop-r in
    let t = c.loop-r-test.true in
    let m = types_most s.requires.0.sheet in
    let p = l.invariant.1 in
    let n = lines_long s.requires.0 a.table l.r (omega arith) in
    let e = total_more l.r (λ q. type_length a.interval (type_at a.sheet q).instances) in
    let g = total_grows (l.r + 1) a.sheet.type_count (λ q. type_length a.interval (type_at a.sheet q).instances) (omega arith) in
    (s.requires.0, omega arith, omega (arith, s.requires.1, p.ends, p.size, n, e, g))

add_r : tie.Need-overflow_step-r invariant_loop decreases_loop
add_r c = search rules

loop_less : tie.Need-loop-r-smaller invariant_loop decreases_loop
loop_less c = search rules

loop_again : tie.Need-loop-r-preserved invariant_loop decreases_loop
loop_again c =
    let a = c.args in
    let l = c.loop-r in
    let t = c.loop-r-test.true in (
      omega arith,
      pasted_as (sym (up_more l.r (type_text a.sheet a.interval a.table)))
          (pasted_then (omega arith) l.invariant.1 c.put_type-place.ensures),
    )

same_length : tie.Need-shape_of-out invariant_loop decreases_loop
same_length c = c.loop-r.invariant.1.size

returns : tie.Need-returns invariant_loop decreases_loop
returns c =
    let a = c.args in
    let l = c.loop-r in
    let e : l.r ≡ a.sheet.type_count = omega (arith, l.invariant.0, c.loop-r-test.false) in
    pasted_front (pasted_as (ap (lines_to a.sheet a.interval a.table) e ∙ sym (page_lines a.sheet a.interval a.table)) l.invariant.1)

pub put_page_spec : {M : Type 1} → statement M
put_page_spec =
    tie.close
    (tie.spec
    invariant_loop
    decreases_loop
    loop_holds
    put_type_requires
    add_r
    loop_less
    loop_again
    same_length
    returns)
