-- The root's bounds agree with its box on the operations of the sheet.
use Rattle.std.proofs.Common.{drop}
use Rattle.tree_judge.specs.Reading.{most_cuts}
use Rattle.tree_judge.specs.Verdicts.{root_judged}
use Rattle.tree_judge.proofs.judge_from.Goals as goal

pub returns : goal.returns
returns c =
    let a = c.args in
    root_judged a.sheet a.interval a.s.now most_cuts a.line (drop a.at a.s.now) c.requires.0 c.root.ensures.0 c.judge_tree.ensures
