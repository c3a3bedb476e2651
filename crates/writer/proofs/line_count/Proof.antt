-- `writer::line_count` meets its contract.
-- From the ranges of the counts.
use mathlib.Core.Path.{◌≡◌, sym}
use lib.ListN.{length}
use Rattle.sizes.specs.Sizes.{most_types, most_operations, most_edges}
use Rattle.sheet.specs.Facts.{types_most, ops_most, edges_most}
use Rattle.writer.specs.Lines.{line_count_lem}
use native.Mathlib.Omega.{arith}
use Rattle.writer.proofs.line_count.Statement.{statement}
use Rattle.writer.proofs.line_count.Tie as tie

add_result : tie.Need-overflow_add-result
add_result c =
    let r = types_most c.requires in
    let n = ops_most c.requires in
    let e = edges_most c.requires in
    omega arith

add_result_2 : tie.Need-overflow_add-result-2
add_result_2 c =
    let r = types_most c.requires in
    let n = ops_most c.requires in
    let e = edges_most c.requires in
    omega arith

add_result_3 : tie.Need-overflow_add-result-3
add_result_3 c =
    let r = types_most c.requires in
    let n = ops_most c.requires in
    let e = edges_most c.requires in
    omega arith

returns : tie.Need-returns
returns c =
    let s = c.args.s in
    let r = types_most c.requires in
    let n = ops_most c.requires in
    let e = edges_most c.requires in
    let a : length s.types ≡ most_types = c.well_formed.0.1.1.1.1.1.0.1.0.1 in
    let b : length s.ops ≡ most_operations = c.well_formed.0.1.1.1.1.1.1.1.0.1.0.1 in
    let d : length s.edges ≡ most_edges = c.well_formed.0.1.1.1.1.1.1.1.1.1.0.1.0.1 in
    (sym (line_count_lem s (omega arith) (omega arith) (omega arith)), omega arith)

pub line_count_spec : {M : Type 1} → statement M
line_count_spec =
    tie.close
    (tie.spec
    add_result
    add_result_2
    add_result_3
    returns)
