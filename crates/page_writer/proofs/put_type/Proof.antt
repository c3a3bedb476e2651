-- `page_writer::put_type` meets its contract.
-- From what `put_heading` and `put_slots` ensure.
use Prim.Native.Nat.{◌<◌}
use native.Mathlib.Omega.{arith}
use mathlib.Core.Path.{sym}
use Rattle.sheet.specs.Sheet.{type_at}
use Rattle.page_text.specs.Page.{user_of}
use Rattle.text.specs.Pasting.{pasted_none, pasted_as, pasted_then}
use Rattle.page_text.specs.Widths.{heading_long, limited_lines, unlimited_lines, limited_length}
use borrow.Author.Rules.{rules}
use Rattle.page_writer.proofs.put_type.Statement.{statement}
use Rattle.page_writer.proofs.put_type.Tie as tie

mul_kind : tie.Need-offset_bounds-sheet-r
mul_kind c = search rules

element_copy_out_kind : tie.Need-bounds-sheet-r
element_copy_out_kind c = search rules

returns : tie.Need-returns-then-limit-eq0
returns c =
    let s = c in
    let a = s.args in
    let h = s.requires.2 in
    let A = (type_at a.sheet a.r).instances in
    pasted_as (sym (unlimited_lines a.interval A (user_of a.sheet a.interval a.table a.r) a.r c.if-limit-eq0.true)) (pasted_none a.out.now a.at (omega arith))

put_heading_requires : tie.Need-put_heading-first-requires
put_heading_requires c κs =
    let s = c in
    let a = s.args in
    let n : 0 < (type_at a.sheet a.r).instances = omega (arith, c.if-limit-eq0.false) in
    let w = limited_length a.interval (type_at a.sheet a.r).instances n in
    (omega (arith, s.requires.1), omega (arith, s.requires.2, w))

put_slots_requires : tie.Need-put_slots-requires
put_slots_requires c κs =
    let s = c in
    let a = s.args in
    let p = c.put_heading-first.ensures in
    let n : 0 < (type_at a.sheet a.r).instances = omega (arith, c.if-limit-eq0.false) in
    let w = limited_length a.interval (type_at a.sheet a.r).instances n in
    let l = heading_long a.r (omega (arith, s.requires.1)) in
    (s.requires.0, s.requires.1, omega (arith, s.requires.2, w, p.ends, p.size))

same_length : tie.Need-shape_of-out
same_length c = search rules

returns_2 : tie.Need-returns
returns_2 c =
    let s = c in
    let a = s.args in
    let h = s.requires.2 in
    let A = (type_at a.sheet a.r).instances in
    pasted_as (sym (limited_lines a.interval A (user_of a.sheet a.interval a.table a.r) a.r (omega (arith, c.if-limit-eq0.false))))
    (pasted_then (omega arith) c.put_heading-first.ensures c.put_slots.ensures)

pub put_type_spec : {M : Type 1} → statement M
put_type_spec =
    tie.close
    (tie.spec
    mul_kind
    element_copy_out_kind
    returns
    put_heading_requires
    put_slots_requires
    same_length
    returns_2)
