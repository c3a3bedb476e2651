-- `bench_dependence::cell` meets its contract: inside the table its cell, past it 0.
-- Assumes nothing.
use mathlib.Core.Path.{refl}
use native.Mathlib.Omega.{arith}
use borrow.Author.Rules.{rules}
use Rattle.bench_dependence.specs.Cells.{cell_inside, cell_past}
use Rattle.bench_dependence.proofs.cell.Statement.{statement}
use Rattle.bench_dependence.proofs.cell.Tie as tie

mul_result : tie.Need-offset_bounds-table-i
mul_result c = search rules

mul_result_2 : tie.Need-offset_bounds-table-j
mul_result_2 c = search rules

index_1_result : tie.Need-bounds-table-i
index_1_result c = search rules

index_2_result : tie.Need-bounds-table-j
index_2_result c = search rules

returns : tie.Need-returns-then-j-lt-MOST_OPERATIONS
returns c = cell_inside c.if-i-lt-MOST_OPERATIONS.true c.if-j-lt-MOST_OPERATIONS.true (search rules)

returns_2 : tie.Need-returns-else-j-lt-MOST_OPERATIONS
returns_2 c = cell_past (λ x. absurd (omega (arith, x.1, c.if-j-lt-MOST_OPERATIONS.false))) refl

returns_3 : tie.Need-returns-else-i-lt-MOST_OPERATIONS
returns_3 c = cell_past (λ x. absurd (omega (arith, x.0, c.if-i-lt-MOST_OPERATIONS.false))) refl

pub cell_spec : {M : Type 1} → statement M
cell_spec =
    tie.close
    (tie.spec mul_result mul_result_2 index_1_result index_2_result returns returns_2 returns_3)
