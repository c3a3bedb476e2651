-- `page_text::columns::put_in_five` meets its contract.
-- From what `in_five` and `put_at` ensure.
use Rattle.text.specs.Pasting.{pasted_as}
use borrow.Author.Rules.{rules}
use Rattle.page_text.proofs.columns.put_in_five.Statement.{statement}
use Rattle.page_text.proofs.columns.put_in_five.Tie as tie

in_five_requires : tie.Need-in_five-bytes-requires
in_five_requires c κs = search rules

slice_aggregate_put_at : tie.Need-slice_bounds-put_at-end
slice_aggregate_put_at c = search rules

put_at_requires : tie.Need-put_at-requires
put_at_requires c κs = search rules

same_length : tie.Need-shape_of-out
same_length c = search rules

returns : tie.Need-returns
returns c =
    pasted_as c.in_five-bytes.ensures c.put_at.ensures

pub put_in_five_spec : {M : Type 1} → statement M
put_in_five_spec =
    tie.close
    (tie.spec in_five_requires slice_aggregate_put_at put_at_requires same_length returns)
