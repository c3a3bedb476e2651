-- `reader::line_number` meets its contract: the invariant is the number of the line at the place that is passed.
-- Assumes nothing.
use mathlib.Core.Path.{◌≡◌, sym, ap, ◌∙◌}
use mathlib.Core.Logic.{⊎_elim}
use Prim.Native.Nat.{ℕ, ◌-◌, ◌≤◌}
use native.Mathlib.Omega.{arith}
use Rattle.reader.specs.Fault.{line_number}
use Rattle.reader.specs.FaultLaws.{first_line, after_feed, after_other, number_small}
use borrow.Author.Rules.{rules}
use Rattle.reader.proofs.line_number.Statement.{statement}
use Rattle.reader.proofs.line_number.Tie as tie

abbrev invariant_loop : tie.invariant-loop-i
invariant_loop bytes at line₀ i₀ line i = (i ≤ at) × (line ≡ line_number i bytes)

abbrev decreases_loop : tie.decreases-loop-i
decreases_loop bytes at line₀ i₀ line i = at - i

loop_holds : tie.Need-loop-i-init invariant_loop decreases_loop
loop_holds c = (search rules, sym (first_line _))

shared_slice_read_if1 : tie.Need-bounds-bytes-i invariant_loop decreases_loop
shared_slice_read_if1 c = search rules

add_line : tie.Need-overflow_add-line invariant_loop decreases_loop
add_line c =
    let l = c.loop-i in
    omega (arith, number_small c.args.bytes.now l.i, l.invariant.1)

add_i : tie.Need-overflow_add-i invariant_loop decreases_loop
add_i c = search rules

loop_less : tie.Need-loop-i-smaller invariant_loop decreases_loop
loop_less c = search rules

loop_again : tie.Need-loop-i-preserved invariant_loop decreases_loop
loop_again c =
    let l = c.loop-i in
    let bytes = c.args.bytes.now in (
      search rules,
      ⊎_elim (λ w. omega (arith, l.invariant.1, after_feed bytes l.i w.if-bytes-i-eq-LINE_FEED.true)) (λ w. omega (arith, l.invariant.1, after_other bytes l.i w.if-bytes-i-eq-LINE_FEED.false)) c.if-bytes-i-eq-LINE_FEED.branch-raw,
    )

returns : tie.Need-returns invariant_loop decreases_loop
returns c =
    let l = c.loop-i in
    let q : l.i ≡ c.args.at = omega arith in
    l.invariant.1 ∙ ap (λ (i : ℕ). line_number i c.args.bytes.now) q

pub line_number_spec : {M : Type 1} → statement M
line_number_spec =
    tie.close
    (tie.spec
    invariant_loop
    decreases_loop
    loop_holds
    shared_slice_read_if1
    add_line
    add_i
    loop_less
    loop_again
    returns)
