-- From the law of a line of naturals that are small.
use Rattle.std.proofs.Common.{ap, ◌∙◌, arith}
use Rattle.text.specs.Text.{line_text}
use Rattle.text.specs.Keys.{loop_key}
use Rattle.lines.specs.Numbers.{as_they_are}
use Rattle.interval_lines.proofs.loop_line.Goals as goal

pub returns : goal.returns
returns c =
    let a = c.args in
    c.numbers_line.ensures ∙ ap (line_text loop_key) (as_they_are a.count a.edges (λ k. let h = c.requires k in omega arith))
