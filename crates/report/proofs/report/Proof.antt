-- `report::report` meets its contract: the text is made in a buffer of its own, and goes into the lent one whole.
-- From what `print` and `put_text` ensure.
use mathlib.Core.Path.{refl, sym}
use lib.Seq.{length-take-le}
use Rattle.report.specs.Printing.{reported, front_size}
use native.Mathlib.Omega.{arith}
use borrow.Author.Rules.{rules}
use Rattle.report.proofs.report.Statement.{statement}
use Rattle.report.proofs.report.Tie as tie

slice_aggregate_print : tie.Need-slice_bounds-print-end
slice_aggregate_print c = refl

print_requires : tie.Need-print-count-requires
print_requires c κs = omega arith

array_share_prefix_text : tie.Need-slice_bounds-text-end
array_share_prefix_text c = let p = c.print-count.ensures in rw (front_size p) p.fits

slice_aggregate_put_text : tie.Need-slice_bounds-put_text-end
slice_aggregate_put_text c =
    let p = c.print-count in
    sym (length-take-le p.result p.new.out (rw (front_size p.ensures) p.ensures.fits))

put_text_requires : tie.Need-put_text-requires
put_text_requires c κs = search rules

same_length : tie.Need-shape_of-out
same_length c = search rules

returns : tie.Need-returns
returns c =
    let p = c.print-count in
    let t = c.put_text.ensures in
    reported p.new.out p.result refl p.ensures t.0 t.1

pub report_spec : {M : Type 1} → statement M
report_spec =
    tie.close
    (tie.spec
    slice_aggregate_print
    print_requires
    array_share_prefix_text
    slice_aggregate_put_text
    put_text_requires
    same_length
    returns)
