-- `page_writer::put_slot_line` meets its contract.
-- From what `put_in_four`, `put_columns` and `put_at` ensure: the three parts one after the other.
use native.Mathlib.Omega.{arith}
use mathlib.Core.Path.{sym}
use Rattle.sizes.specs.Sizes.{most_instances}
use Rattle.laws.specs.Entry.{vec}
use Rattle.text.specs.Pasting.{pasted_as, pasted_then}
use Rattle.page_text.specs.Widths.{four_wide, columns_wide, slot_parts}
use borrow.Author.Rules.{rules}
use Rattle.page_writer.proofs.put_slot_line.Statement.{statement}
use Rattle.page_writer.proofs.put_slot_line.Tie as tie

put_in_four_requires : tie.Need-put_in_four-first-requires
put_in_four_requires c κs = search rules

put_columns_requires : tie.Need-put_columns-end-requires
put_columns_requires c κs =
    let s = c in
    let p = c.put_in_four-first.ensures in
    let w = four_wide s.args.slot s.requires.0 in
    let h = s.requires.2 in
    (s.requires.1, omega (arith, p.ends, p.size))

put_at_requires : tie.Need-put_at-requires
put_at_requires c κs =
    let s = c in
    let a = s.args in
    let p = c.put_in_four-first.ensures in
    let q = c.put_columns-end.ensures in
    let w = four_wide a.slot s.requires.0 in
    let n = columns_wide a.limit (vec a.users.of) s.requires.1 most_instances (omega arith) in
    let h = s.requires.2 in
    omega (arith, p.ends, p.size, q.ends, q.size)

same_length : tie.Need-shape_of-out
same_length c = search rules

returns : tie.Need-returns
returns c =
    let s = c in
    let a = s.args in
    let p = c.put_in_four-first.ensures in
    let q = c.put_columns-end.ensures in
    let w = four_wide a.slot s.requires.0 in
    let h = s.requires.2 in
    pasted_as (sym (slot_parts a.limit (vec a.users.of) a.slot))
    (pasted_then (omega arith) p (pasted_then (omega (arith, p.ends, p.size)) q c.put_at.ensures))

pub put_slot_line_spec : {M : Type 1} → statement M
put_slot_line_spec =
    tie.close
    (tie.spec
    put_in_four_requires
    put_columns_requires
    put_at_requires
    same_length
    returns)
