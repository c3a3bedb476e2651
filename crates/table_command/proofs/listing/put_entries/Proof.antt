-- `table_command::listing::put_entries` meets its contract.
-- From what `entry_line` and `put_line_at` ensure. The invariant: the entries before i are written, up to the place
-- reached.
use Prim.Native.Nat.{ℕ, ◌-◌, ◌≤◌}
use native.Mathlib.Omega.{arith}
use mathlib.Core.Path.{◌≡◌, sym, ap}
use lib.ListN.{length}
use Rattle.text.specs.Lines.{lines_text}
use Rattle.placing_table.specs.Table.{placement_at}
use Rattle.text.specs.Pasting.{Pasted, pasted_none, pasted_as, pasted_then}
use Rattle.table_command.specs.Prints.{entry_lines}
use Rattle.table_command.specs.Widths.{entry_most_lem, entries_none, entries_more, entries_most}
use borrow.Author.Rules.{rules}
use Rattle.table_command.proofs.listing.put_entries.Statement.{statement}
use Rattle.table_command.proofs.listing.put_entries.Tie as tie

abbrev invariant_loop : tie.invariant-loop-i
invariant_loop out₀ at count table place₀ i₀ out place i = (i ≤ count) × Pasted at (lines_text (entry_lines i table)) out₀ out place

abbrev decreases_loop : tie.decreases-loop-i
decreases_loop out₀ at count table place₀ i₀ out place i = count - i

loop_holds : tie.Need-loop-i-init invariant_loop decreases_loop
loop_holds c =
    let s = c in
    (omega arith, pasted_as (sym (entries_none s.args.table)) (pasted_none s.args.out.now s.args.at (omega (arith, s.requires.2))))

mul_entry_line : tie.Need-offset_bounds-table-i invariant_loop decreases_loop
mul_entry_line c = omega (arith, c.loop-i-test.true, c.requires.0)

element_copy_out_entry_line : tie.Need-bounds-table-i invariant_loop decreases_loop
element_copy_out_entry_line c = omega (arith, c.loop-i-test.true, c.requires.0)

entry_line_requires : tie.Need-entry_line-requires invariant_loop decreases_loop
entry_line_requires c κs = c.requires.1 c.loop-i.i

put_line_at_requires : tie.Need-put_line_at-place-requires invariant_loop decreases_loop
put_line_at_requires c κs =
    let s = c in
    let table = s.args.table in
    let l = c.loop-i in
    let p = l.invariant.1 in
    omega
    (arith, ap length c.entry_line.ensures, entry_most_lem (placement_at table l.i) (s.requires.1 l.i), entries_most l.i table s.requires.1, p.ends, p.size, s.requires.0, s.requires.2, c.loop-i-test.true)

add_i : tie.Need-overflow_step-i invariant_loop decreases_loop
add_i c = search rules

loop_less : tie.Need-loop-i-smaller invariant_loop decreases_loop
loop_less c = search rules

loop_again : tie.Need-loop-i-preserved invariant_loop decreases_loop
loop_again c =
    let l = c in
    let s = l in
    let h = s.requires.2 in (
      omega (arith, c.loop-i-test.true),
      pasted_as (sym (entries_more l.loop-i.i s.args.table))
          (pasted_then (omega arith) l.loop-i.invariant.1 (pasted_as c.entry_line.ensures c.put_line_at-place.ensures)),
    )

same_length : tie.Need-shape_of-out invariant_loop decreases_loop
same_length c = c.loop-i.invariant.1.size

returns : tie.Need-returns invariant_loop decreases_loop
returns c =
    let l = c.loop-i in
    let a = c.args in
    let e : l.i ≡ a.count = omega (arith, l.invariant.0, c.loop-i-test.false) in
    pasted_as (ap (λ (k : ℕ). lines_text (entry_lines k a.table)) e) l.invariant.1

pub put_entries_spec : {M : Type 1} → statement M
put_entries_spec =
    tie.close
    (tie.spec
    invariant_loop
    decreases_loop
    loop_holds
    mul_entry_line
    element_copy_out_entry_line
    entry_line_requires
    put_line_at_requires
    add_i
    loop_less
    loop_again
    same_length
    returns)
