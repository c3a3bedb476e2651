-- `table_command::listing::put_line_at` meets its contract.
-- From what `put_line` ensures, by the law of a part that was lent and came back.
use Prim.Native.Nat.{◌-◌}
use native.Mathlib.Omega.{arith}
use mathlib.Core.Path.{◌∙◌}
use lib.ListN.{length, take, drop}
use Rattle.text.specs.Line.{text_of}
use Rattle.text.specs.Writing.{part_length, fitting}
use Rattle.text.specs.Pasting.{pasted_part}
use borrow.Author.Rules.{rules}
use Rattle.table_command.proofs.listing.put_line_at.Statement.{statement}
use Rattle.table_command.proofs.listing.put_line_at.Tie as tie

sub_put_line : tie.Need-slice_bounds-put_line-count
sub_put_line c = search rules

part_put_line_start : tie.Need-slice_bounds-put_line-start
part_put_line_start c = search rules

part_put_line_end : tie.Need-slice_bounds-put_line-end
part_put_line_end c = search rules

put_line_requires : tie.Need-put_line-requires
put_line_requires c κs = search rules

add_result : tie.Need-overflow_add-result
add_result c =
    let s = c in
    let a = s.args in
    let p = c.put_line in
    let h = s.requires in
    let n = part_length a.out.now a.at (omega arith) in
    let f = fitting (text_of a.line) (take (length a.out.now - a.at) (drop a.at a.out.now)) (omega arith) in
    omega (arith, p.ensures.0, f.0, s.well_formed.0.0)

same_length : tie.Need-shape_of-out
same_length c = search rules

returns : tie.Need-returns
returns c =
    let s = c in
    let a = s.args in
    let p = c.put_line in
    let h = s.requires in
    let n = part_length a.out.now a.at (omega arith) in
    let f = fitting (text_of a.line) (take (length a.out.now - a.at) (drop a.at a.out.now)) (omega arith) in
    pasted_part (text_of a.line) a.out.now a.at h (p.ensures.0 ∙ f.0) (p.ensures.1 ∙ f.1)

pub put_line_at_spec : {M : Type 1} → statement M
put_line_at_spec =
    tie.close
    (tie.spec
    sub_put_line
    part_put_line_start
    part_put_line_end
    put_line_requires
    add_result
    same_length
    returns)
