-- `sheet_sections::read_ops` meets its contract: the count picks the case of `section_from`, and its range bounds the
-- loop.
-- Assumes nothing.
use Rattle.text.specs.Keys as key
use Rattle.sheet.specs.Facts.{most}
use Rattle.sheet.specs.Ranges as range
use Rattle.sheet_lines.specs.Kinds.{ops_kind, op_kind}
use Rattle.sheet_lines.specs.Steps.{count_inside, count_refused, section_read}
use borrow.Author.Rules.{rules}
use Rattle.sheet_sections.proofs.read_ops.Statement.{statement}
use Rattle.sheet_sections.proofs.read_ops.Tie as tie

read_number_requires : tie.Need-read_number-count-requires
read_number_requires c κs = search rules

no_ops_requires : tie.Need-no_ops-requires
no_ops_requires c κs = search rules

returns : tie.Need-returns-then-count-ne0
returns c = count_refused ops_kind (op_kind c.args.types c.args.horizon) _ c.read_number-count.ensures c.if-count-ne0.true c.no_ops.ensures

op_lines_requires : tie.Need-op_lines-requires
op_lines_requires c κs = (c.read_number-count.ensures.within, most (count_inside key.ops_key range.operations _ c.read_number-count.ensures c.if-count-ne0.false))

returns_2 : tie.Need-returns
returns_2 c = section_read ops_kind (op_kind c.args.types c.args.horizon) _ c.read_number-count.ensures c.if-count-ne0.false c.op_lines.ensures

pub read_ops_spec : {M : Type 1} → statement M
read_ops_spec =
    tie.close
    (tie.spec
    read_number_requires
    no_ops_requires
    returns
    op_lines_requires
    returns_2)
