-- `lags::lag` meets its contract: the difference is exact in an `i32`.
-- Assumes nothing.
use native.Mathlib.Omega.{arith}
use lib.IntN.{pos}
use borrow.Author.Rules.{rules}
use Rattle.net.specs.Net.{highest_floor}
use Rattle.laws.specs.Z.{kept, cast_kept, fits_show, minus, zed}
use Rattle.lags.proofs.lag.Statement.{statement}
use Rattle.lags.proofs.lag.Tie as tie

cast_result : tie.Need-overflow_cast-result
cast_result c = search rules

cast_result_2 : tie.Need-overflow_cast-result-2
cast_result_2 c = search rules

sub_result : tie.Need-overflow_sub-result
sub_result c = let a = c.args in
    rw (cast_kept a.at (omega arith)) (fits_show (omega (arith, zed, minus (pos a.at) (pos highest_floor))) (omega (arith, zed, minus (pos a.at) (pos highest_floor))))

returns : tie.Need-returns
returns c = let a = c.args in
    rw (kept (sub_result c), cast_kept a.at (omega arith))

pub lag_spec : {M : Type 1} → statement M
lag_spec = tie.close (tie.spec cast_result cast_result_2 sub_result returns)
