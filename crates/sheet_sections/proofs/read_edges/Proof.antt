-- `sheet_sections::read_edges` meets its contract: the count picks the case of `section_from`, and its range bounds
-- the loop.
-- Assumes nothing.
use Rattle.text.specs.Keys as key
use Rattle.sheet.specs.Facts.{most}
use Rattle.sheet.specs.Ranges as range
use Rattle.sheet_lines.specs.Kinds.{edges_kind, edge_kind}
use Rattle.sheet_lines.specs.Steps.{count_inside, count_refused, section_read}
use borrow.Author.Rules.{rules}
use Rattle.sheet_sections.proofs.read_edges.Statement.{statement}
use Rattle.sheet_sections.proofs.read_edges.Tie as tie

read_number_requires : tie.Need-read_number-count-requires
read_number_requires c κs = search rules

no_edges_requires : tie.Need-no_edges-requires
no_edges_requires c κs = search rules

returns : tie.Need-returns-then-count-ne0
returns c = count_refused edges_kind (edge_kind c.args.ops) _ c.read_number-count.ensures c.if-count-ne0.true c.no_edges.ensures

edge_lines_requires : tie.Need-edge_lines-requires
edge_lines_requires c κs = (c.read_number-count.ensures.within, most (count_inside key.edges_key range.edges _ c.read_number-count.ensures c.if-count-ne0.false))

returns_2 : tie.Need-returns
returns_2 c = section_read edges_kind (edge_kind c.args.ops) _ c.read_number-count.ensures c.if-count-ne0.false c.edge_lines.ensures

pub read_edges_spec : {M : Type 1} → statement M
read_edges_spec =
    tie.close
    (tie.spec
    read_number_requires
    no_edges_requires
    returns
    edge_lines_requires
    returns_2)
