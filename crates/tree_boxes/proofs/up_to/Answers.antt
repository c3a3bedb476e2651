-- By the cut one part of the operation's entry is changed.
use Rattle.std.proofs.Common.{◌≡◌, length, rules, arith}
use Rattle.sizes.specs.Sizes.{most_operations}
use Rattle.laws.specs.Z.{kept, fits32}
use Rattle.denial.specs.Box.{lesser}
use Rattle.tree_boxes.specs.Within.{within_fits}
use Rattle.tree_boxes.specs.Bounds.{left_at}
use Rattle.tree_boxes.specs.Cuts.{starts_to_is, instances_to_is}
use Rattle.tree_boxes.proofs.up_to.Goals as goal

pub returns-in-Split : goal.returns-in-Split
returns-in-Split c =
    let b = c.args.b in
    let i = c.in-Split.i in
    let whole : length b.each ≡ most_operations = search rules in
    let h = rw c.in-Split.is at c.requires.0 in
    let f = within_fits (omega arith) (c.requires.1 i h.0).highest in
    let e : c.lesser_of.result ≡ lesser (left_at b i).highest c.in-Split.v =
    rw (kept {z = (left_at b i).highest} f) at c.lesser_of.ensures in
    rw (kept {z = c.lesser_of.result} (fits32 c.lesser_of.type_inv), c.in-Split.is)
    (starts_to_is b i c.in-Split.v whole h.0 h.1 c.requires.1 _ e)

pub returns-in-Seat : goal.returns-in-Seat
returns-in-Seat c =
    let b = c.args.b in
    let whole : length b.each ≡ most_operations = search rules in
    let h = rw c.in-Seat.is at c.requires.0 in
    rw c.in-Seat.is (instances_to_is b c.in-Seat.i c.in-Seat.k whole h.0 h.1 c.requires.1 _ c.min.ensures)
