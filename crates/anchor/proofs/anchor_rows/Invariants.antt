use Rattle.std.proofs.Common.{◌≡◌, ℕ, ◌<◌, eqb, length}
use Rattle.sizes.specs.Sizes.{most_operations}
use Rattle.domain.specs.Domain.{has, row_of}
use Rattle.relax.specs.Relax.{AnchorRow}
use Rattle.anchor.proofs.anchor_rows.Given as goal

abbrev pub invariant-loop-j : goal.invariant-loop-j
invariant-loop-j l = (length l.d ≡ most_operations) × ((k : ℕ) → k < l.j → AnchorRow (has l.c k) (eqb l.i k) (row_of l.d k))
