-- By the cut one part of the operation's entry is changed.
use Rattle.std.proofs.Common.{◌≡◌, length, rules}
use Rattle.sizes.specs.Sizes.{most_operations}
use Rattle.tree_boxes.specs.Cuts.{starts_above_is, instances_above_is}
use Rattle.tree_boxes.proofs.above.Goals as goal

pub returns-in-Split : goal.returns-in-Split
returns-in-Split c =
    let b = c.args.b in
    let whole : length b.each ≡ most_operations = search rules in
    let h = rw c.in-Split.is at c.requires.0 in
    rw c.in-Split.is (starts_above_is b c.in-Split.i c.in-Split.v whole h.0 h.1 c.requires.1 _ c.max.ensures)

pub returns-in-Seat : goal.returns-in-Seat
returns-in-Seat c =
    let b = c.args.b in
    let whole : length b.each ≡ most_operations = search rules in
    let h = rw c.in-Seat.is at c.requires.0 in
    rw c.in-Seat.is (instances_above_is b c.in-Seat.i c.in-Seat.k whole h.0 h.1 c.requires.1 _ c.max-in-Seat.ensures)
