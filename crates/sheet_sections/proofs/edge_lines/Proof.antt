-- `sheet_sections::edge_lines` meets its contract: each way through the loop is a law of `Turn`, the invariant.
-- Assumes nothing.
use borrow.Author.Rules.{rules}
use Prim.Native.Nat.{◌-◌}
use Rattle.sizes.specs.Sizes.{most_edges}
use Rattle.dependence.specs.Graph.{no_edge}
use Rattle.sheet_lines.specs.Kinds.{edge_kind}
use Rattle.sheet_lines.specs.Steps.{Turn, start, stops, turn, done}
use Rattle.sheet_sections.proofs.edge_lines.Statement.{statement}
use Rattle.sheet_sections.proofs.edge_lines.Tie as tie

abbrev invariant_loop : tie.invariant-loop-i
invariant_loop s at count ops entries₀ p₀ i₀ entries p i = Turn (edge_kind ops) most_edges no_edge s at count entries p i

abbrev decreases_loop : tie.decreases-loop-i
decreases_loop s at count ops entries₀ p₀ i₀ entries p i = count - i

loop_holds : tie.Need-loop-i-init invariant_loop decreases_loop
loop_holds c = start _ most_edges no_edge _ _ _ c.requires.0

read_edge_requires : tie.Need-read_edge-line-requires invariant_loop decreases_loop
read_edge_requires c κs = search rules

no_edges_requires : tie.Need-no_edges-requires invariant_loop decreases_loop
no_edges_requires c κs = search rules

returns : tie.Need-returns-then-line-ne0 invariant_loop decreases_loop
returns c = stops c.loop-i.invariant c.loop-i-test.true c.read_edge-line.ensures c.if-line-ne0.true c.no_edges.ensures

mul_entries : tie.Need-offset_bounds-entries-i invariant_loop decreases_loop
mul_entries c = search rules

array_set_from_entries : tie.Need-bounds-entries-i invariant_loop decreases_loop
array_set_from_entries c = search rules

add_i : tie.Need-overflow_add-i invariant_loop decreases_loop
add_i c = search rules

loop_less : tie.Need-loop-i-smaller invariant_loop decreases_loop
loop_less c = search rules

loop_again : tie.Need-loop-i-preserved invariant_loop decreases_loop
loop_again c = turn c.loop-i.invariant c.loop-i-test.true c.read_edge-line.ensures c.requires.1 c.if-line-ne0.false

returns_2 : tie.Need-returns invariant_loop decreases_loop
returns_2 c = done c.loop-i.invariant c.loop-i-test.false

pub edge_lines_spec : {M : Type 1} → statement M
edge_lines_spec =
    tie.close
    (tie.spec
    invariant_loop
    decreases_loop
    loop_holds
    read_edge_requires
    no_edges_requires
    returns
    mul_entries
    array_set_from_entries
    add_i
    loop_less
    loop_again
    returns_2)
