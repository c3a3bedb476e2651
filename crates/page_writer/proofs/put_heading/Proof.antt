-- `page_writer::put_heading` meets its contract.
-- From what `put_at` and `put_in_five` ensure: the three parts one after the other.
use mathlib.Core.Path.{sym}
use native.Mathlib.Omega.{arith}
use Rattle.text.specs.Pasting.{pasted_as, pasted_then}
use Rattle.page_text.specs.Widths.{five_wide, heading_parts}
use borrow.Author.Rules.{rules}
use Rattle.page_writer.proofs.put_heading.Statement.{statement}
use Rattle.page_writer.proofs.put_heading.Tie as tie

put_at_requires : tie.Need-put_at-number-requires
put_at_requires c κs = search rules

put_in_five_requires : tie.Need-put_in_five-end-requires
put_in_five_requires c κs = search rules

put_at_requires_2 : tie.Need-put_at-requires
put_at_requires_2 c κs =
    let s = c in
    let p = c.put_at-number.ensures in
    let q = c.put_in_five-end.ensures in
    let w = five_wide s.args.r s.requires.0 in
    let h = s.requires.1 in
    omega (arith, p.ends, p.size, q.ends, q.size)

same_length : tie.Need-shape_of-out
same_length c = search rules

returns : tie.Need-returns
returns c =
    let s = c in
    let h = s.requires.1 in
    let p = c.put_at-number.ensures in
    let q = c.put_in_five-end.ensures in
    let w = five_wide s.args.r s.requires.0 in
    pasted_as (sym (heading_parts s.args.r s.requires.0))
    (pasted_then (omega arith) p (pasted_then (omega (arith, p.ends, p.size)) q c.put_at.ensures))

pub put_heading_spec : {M : Type 1} → statement M
put_heading_spec =
    tie.close
    (tie.spec
    put_at_requires
    put_in_five_requires
    put_at_requires_2
    same_length
    returns)
