-- `page_writer::put_column` meets its contract.
-- From what `put_at` and `put_in_five` ensure, by the three kinds of column.
use Rattle.text.specs.Pasting.{pasted_as}
use Rattle.page_text.specs.Widths.{no_instance, unused, used}
use borrow.Author.Rules.{rules}
use Rattle.page_writer.proofs.put_column.Statement.{statement}
use Rattle.page_writer.proofs.put_column.Tie as tie

put_at_requires : tie.Need-put_at-requires
put_at_requires c κs = search rules

same_length : tie.Need-shape_of-out-then-limit-column
same_length c = search rules

returns : tie.Need-returns-then-limit-column
returns c =
    let a = c.args in pasted_as (no_instance a.limit a.column a.user c.if-limit-column.true) c.put_at.ensures

put_at_requires_2 : tie.Need-put_at-requires-then-user-eq0
put_at_requires_2 c κs = search rules

same_length_2 : tie.Need-shape_of-out-then-user-eq0
same_length_2 c = search rules

returns_2 : tie.Need-returns-then-user-eq0
returns_2 c =
    let a = c.args in pasted_as (unused a.limit a.column a.user c.if-limit-column.false c.if-user-eq0.true) c.put_at-then-user-eq0.ensures

sub_put_in_five : tie.Need-overflow_sub-user
sub_put_in_five c = search rules

put_in_five_requires : tie.Need-put_in_five-requires
put_in_five_requires c κs = search rules

same_length_3 : tie.Need-shape_of-out
same_length_3 c = search rules

returns_3 : tie.Need-returns
returns_3 c =
    let a = c.args in pasted_as (used a.limit a.column a.user c.if-limit-column.false c.if-user-eq0.false) c.put_in_five.ensures

pub put_column_spec : {M : Type 1} → statement M
put_column_spec =
    tie.close
    (tie.spec
    put_at_requires
    same_length
    returns
    put_at_requires_2
    same_length_2
    returns_2
    sub_put_in_five
    put_in_five_requires
    same_length_3
    returns_3)
