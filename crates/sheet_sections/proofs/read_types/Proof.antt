-- `sheet_sections::read_types` meets its contract: the count picks the case of `section_from`, and its range bounds
-- the loop.
-- Assumes nothing.
use Rattle.text.specs.Keys as key
use Rattle.sheet.specs.Facts.{most}
use Rattle.sheet.specs.Ranges as range
use Rattle.sheet_lines.specs.Kinds.{types_kind, type_kind}
use Rattle.sheet_lines.specs.Steps.{count_inside, count_refused, section_read}
use borrow.Author.Rules.{rules}
use Rattle.sheet_sections.proofs.read_types.Statement.{statement}
use Rattle.sheet_sections.proofs.read_types.Tie as tie

read_number_requires : tie.Need-read_number-count-requires
read_number_requires c κs = search rules

no_types_requires : tie.Need-no_types-requires
no_types_requires c κs = search rules

returns : tie.Need-returns-then-count-ne0
returns c = count_refused types_kind type_kind _ c.read_number-count.ensures c.if-count-ne0.true c.no_types.ensures

type_lines_requires : tie.Need-type_lines-requires
type_lines_requires c κs = (c.read_number-count.ensures.within, most (count_inside key.types_key range.types _ c.read_number-count.ensures c.if-count-ne0.false))

returns_2 : tie.Need-returns
returns_2 c = section_read types_kind type_kind _ c.read_number-count.ensures c.if-count-ne0.false c.type_lines.ensures

pub read_types_spec : {M : Type 1} → statement M
read_types_spec =
    tie.close
    (tie.spec
    read_number_requires
    no_types_requires
    returns
    type_lines_requires
    returns_2)
