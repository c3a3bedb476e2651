-- The cast keeps a number of four digits, and the library's lesser is `lesser`.
use Rattle.std.proofs.Common.{◌≡◌, ◌∙◌, pos, arith}
use Rattle.std.specs.Int.{int_min}
use Rattle.laws.specs.Z.{kept, cast_kept, fits32}
use Rattle.tree_boxes.specs.Cuts.{lesser_is}
use Rattle.tree_boxes.proofs.lesser_of.Goals as goal

pub returns : goal.returns
returns c =
    let e : c.min.result ≡ int_min c.args.z (pos c.args.v) =
    rw (kept c.ranges.z, cast_kept c.args.v (omega arith)) at c.min.ensures.value in
    rw (kept {z = c.min.result} (fits32 c.min.type_inv)) (e ∙ lesser_is c.args.z c.args.v)
