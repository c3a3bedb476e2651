-- `sheet_sections::op_lines` meets its contract: each way through the loop is a law of `Turn`, the invariant.
-- Assumes nothing.
use borrow.Author.Rules.{rules}
use Prim.Native.Nat.{◌-◌}
use Rattle.sizes.specs.Sizes.{most_operations}
use Rattle.sheet.specs.Sheet.{no_operation}
use Rattle.sheet_lines.specs.Kinds.{op_kind}
use Rattle.sheet_lines.specs.Steps.{Turn, start, stops, turn, done}
use Rattle.sheet_sections.proofs.op_lines.Statement.{statement}
use Rattle.sheet_sections.proofs.op_lines.Tie as tie

abbrev invariant_loop : tie.invariant-loop-i
invariant_loop s at count types horizon entries₀ p₀ i₀ entries p i = Turn (op_kind types horizon) most_operations no_operation s at count entries p i

abbrev decreases_loop : tie.decreases-loop-i
decreases_loop s at count types horizon entries₀ p₀ i₀ entries p i = count - i

loop_holds : tie.Need-loop-i-init invariant_loop decreases_loop
loop_holds c = start _ most_operations no_operation _ _ _ c.requires.0

read_op_requires : tie.Need-read_op-line-requires invariant_loop decreases_loop
read_op_requires c κs = search rules

no_ops_requires : tie.Need-no_ops-requires invariant_loop decreases_loop
no_ops_requires c κs = search rules

returns : tie.Need-returns-then-line-ne0 invariant_loop decreases_loop
returns c = stops c.loop-i.invariant c.loop-i-test.true c.read_op-line.ensures c.if-line-ne0.true c.no_ops.ensures

mul_entries : tie.Need-offset_bounds-entries-i invariant_loop decreases_loop
mul_entries c = search rules

array_set_from_entries : tie.Need-bounds-entries-i invariant_loop decreases_loop
array_set_from_entries c = search rules

add_i : tie.Need-overflow_add-i invariant_loop decreases_loop
add_i c = search rules

loop_less : tie.Need-loop-i-smaller invariant_loop decreases_loop
loop_less c = search rules

loop_again : tie.Need-loop-i-preserved invariant_loop decreases_loop
loop_again c = turn c.loop-i.invariant c.loop-i-test.true c.read_op-line.ensures c.requires.1 c.if-line-ne0.false

returns_2 : tie.Need-returns invariant_loop decreases_loop
returns_2 c = done c.loop-i.invariant c.loop-i-test.false

pub op_lines_spec : {M : Type 1} → statement M
op_lines_spec =
    tie.close
    (tie.spec
    invariant_loop
    decreases_loop
    loop_holds
    read_op_requires
    no_ops_requires
    returns
    mul_entries
    array_set_from_entries
    add_i
    loop_less
    loop_again
    returns_2)
