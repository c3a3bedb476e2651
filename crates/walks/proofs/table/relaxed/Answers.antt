use Rattle.std.proofs.Common.{◌+ℤ◌, SFits, arith}
use Rattle.std.specs.Int.{w32}
use Rattle.laws.specs.Z.{kept, fits32, fits_show, zed, sum}
use Rattle.walks.specs.Rounds.{relaxed_z}
use Rattle.walks.proofs.table.relaxed.Goals as goal

-- the greater of the two, read back from their bits
pub returns-else-by-le-NO_WALK : goal.returns-else-by-le-NO_WALK
unfolding relaxed_z
returns-else-by-le-NO_WALK c =
    let f = c.ranges in
    let a = c.args in
    let s : SFits w32 (a.by +ℤ a.weight) = fits_show (omega (arith, zed, sum a.by a.weight)) (omega (arith, zed, sum a.by a.weight)) in
    let t = rw (kept f.by) at c.if-by-le-NO_WALK.false in
    let m = rw (kept f.a, kept f.by, kept f.weight, kept s) at c.max.ensures.value in
    rw (kept (fits32 c.max.type_inv), t) m
