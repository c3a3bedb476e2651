-- `command_lines::parts::headed` meets its contract.
-- From what `alone`, `count_line` and `with` ensure, by the law of one line more.
use mathlib.Core.Path.{◌≡◌}
use lib.ListN.{length}
use Rattle.text.specs.declared.Key.TheVariants as keys
use Rattle.text.specs.Sizes.{most_values}
use Rattle.text.specs.Answers.{interval_line}
use Rattle.command_lines.specs.Shows.{added, one}
use native.Mathlib.Omega.{arith}
use borrow.Author.Rules.{rules}
use Rattle.command_lines.proofs.parts.headed.Statement.{statement}
use Rattle.command_lines.proofs.parts.headed.Tie as tie

alone_requires : tie.Need-alone-requires
alone_requires c κs = search rules

count_line_requires : tie.Need-count_line-requires
count_line_requires c κs = search rules

with_requires : tie.Need-with-requires
with_requires c κs = search rules

returns : tie.Need-returns
returns c =
    let l = c.count_line in
    let s = c in
    let w : length l.result.values ≡ most_values = search rules in
    added c.alone.ensures (omega arith) l.result (interval_line s.args.interval) w
    (one keys.Interval s.args.interval l.result s.requires.1 l.ensures) c.with.ensures

pub headed_spec : {M : Type 1} → statement M
headed_spec = tie.close (tie.spec alone_requires count_line_requires with_requires returns)
