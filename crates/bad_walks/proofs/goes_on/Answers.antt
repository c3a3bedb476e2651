use Rattle.std.proofs.Common.{◌+ℤ◌, SFits, arith}
use Rattle.std.specs.Int.{w32}
use Rattle.laws.specs.Z.{kept, fits_show, zed, sum}
use Rattle.bad_walks.proofs.goes_on.Goals as goal

-- the sum is exact in an `i32`
pub returns-then-from-u : goal.returns-then-from-u
returns-then-from-u c =
    let f = c.ranges in
    let a = c.args in
    let s : SFits w32 (a.s +ℤ a.weight) = fits_show (omega (arith, zed, sum a.s a.weight)) (omega (arith, zed, sum a.s a.weight)) in
    let said = rw (kept f.s, kept f.weight, kept s, kept f.back) at c.closes.ensures in
    record { yes = λ e. (c.if-from-u.true, said.yes e); no = λ e _ h. said.no e h }
