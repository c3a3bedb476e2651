-- The slice is the numbers of the line.
use Rattle.std.proofs.Common.{take}
use Rattle.tree_lines.specs.NodeLaws.{below_test}
use Rattle.tree_lines.proofs.loop_known.Goals as goal

pub returns : goal.returns
returns c =
    let l = c.args.line in
    below_test c.args.edges (take l.count l.values) c.all_below.result c.all_below.ensures
