-- `command_lines::parts::looped` meets its contract.
-- From what `numbers_line` and `with` ensure, by the law of one line more.
use mathlib.Core.Path.{◌≡◌, ap, ◌∙◌}
use lib.ListN.{length, take}
use Rattle.text.specs.Sizes.{most_values}
use Rattle.text.specs.Text.{line_text}
use Rattle.text.specs.Keys.{loop_key}
use Rattle.text.specs.Answers.{loop_line}
use Rattle.lines.specs.Numbers.{as_they_are}
use Rattle.command_lines.specs.Shows.{added}
use native.Mathlib.Omega.{arith}
use borrow.Author.Rules.{rules}
use Rattle.command_lines.proofs.parts.looped.Statement.{statement}
use Rattle.command_lines.proofs.parts.looped.Tie as tie

numbers_line_requires : tie.Need-numbers_line-requires
numbers_line_requires c κs = search rules

with_requires : tie.Need-with-requires
with_requires c κs = search rules

returns : tie.Need-returns
returns c =
    let l = c.numbers_line in
    let s = c in
    let w : length l.result.values ≡ most_values = search rules in
    λ want shows.
    let n = shows.count in
    let h = s.requires.0 in
    added shows (omega arith) l.result (loop_line (take s.args.count s.args.edges)) w
    (l.ensures ∙ ap (line_text loop_key) (as_they_are s.args.count s.args.edges s.requires.1)) c.with.ensures

pub looped_spec : {M : Type 1} → statement M
looped_spec = tie.close (tie.spec numbers_line_requires with_requires returns)
