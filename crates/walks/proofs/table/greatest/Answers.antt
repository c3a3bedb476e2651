use Rattle.std.proofs.Common.{rules, replicate}
use Rattle.sizes.specs.Sizes.{most_operations}
use Rattle.walks.specs.Found.{no_walk}
use Rattle.walks.specs.Table.{is_bounded}
use Rattle.walks.specs.Separate.{separated, blank_law}
use Rattle.walks.proofs.table.greatest.Goals as goal

pub pass-requires : goal.pass-requires
pass-requires c = let n = c.requires.0 in (n, is_bounded n _ (search rules) c.reach-w.result c.reach-w.ensures)

-- the pass began at a table of marks
pub returns : goal.returns
returns c =
    let marks = replicate most_operations (replicate most_operations no_walk) in
    record { cells = separated _ c.requires.0 c.requires.1 c.reach-w.result c.pass.result marks blank_law (rw c.from.ensures at c.reach-w.ensures) c.pass.ensures }
