-- `command_lines::parts::alone` meets its contract.
-- From what `none`, `count_line` and `with` ensure, by the law of one line more.
use mathlib.Core.Path.{◌≡◌, sym, subst}
use mathlib.Core.List.{[]}
use lib.ListN.{length}
use Rattle.text.specs.declared.Key.TheVariants as keys
use Rattle.text.specs.Sizes.{most_values}
use Rattle.text.specs.Answers.{answer_line}
use Rattle.lines.specs.declared.Lines.{Lines}
use Rattle.command_lines.specs.Shows.{Shows, nothing, added, one}
use native.Mathlib.Omega.{arith}
use borrow.Author.Rules.{rules}
use Rattle.command_lines.proofs.parts.alone.Statement.{statement}
use Rattle.command_lines.proofs.parts.alone.Tie as tie

none_requires : tie.Need-none-requires
none_requires c κs = search rules

count_line_requires : tie.Need-count_line-requires
count_line_requires c κs = search rules

with_requires : tie.Need-with-requires
with_requires c κs = search rules

returns : tie.Need-returns
returns c =
    let l = c.count_line in
    let s = c in
    let w : length l.result.values ≡ most_values = search rules in
    added (subst (λ (ls : Lines). Shows ls []) (sym c.none.ensures) nothing) (omega arith) l.result (answer_line s.args.answer) w
    (one keys.Answer s.args.answer l.result s.requires l.ensures) c.with.ensures

pub alone_spec : {M : Type 1} → statement M
alone_spec = tie.close (tie.spec none_requires count_line_requires with_requires returns)
