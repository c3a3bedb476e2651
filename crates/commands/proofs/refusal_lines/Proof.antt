-- `commands::refusal_lines` meets its contract.
-- From what `alone`, `count_line` and `with` ensure.
use mathlib.Core.Path.{◌≡◌, sym, subst}
use lib.ListN.{length}
use Rattle.text.specs.declared.Key.TheVariants as keys
use Rattle.text.specs.Sizes.{most_values}
use Rattle.text.specs.Keys.{line_key}
use Rattle.text.specs.Lines.{count_line}
use Rattle.words.specs.declared.Command.{Command}
use Rattle.command_lines.specs.Listing.{refusal_lines}
use Rattle.command_lines.specs.Shows.{Shows, added, one}
use Rattle.commands.proofs.Variants.{not_check}
use native.Mathlib.Omega.{arith}
use borrow.Author.Rules.{rules}
use Rattle.commands.proofs.refusal_lines.Statement.{statement}
use Rattle.commands.proofs.refusal_lines.Tie as tie

alone_requires : tie.Need-alone-alone-requires
alone_requires c κs = search rules

enum_told : tie.Need-enum_told-1
enum_told c = search rules

count_line_requires : tie.Need-count_line-requires
count_line_requires c κs = search rules

with_requires : tie.Need-with-requires
with_requires c κs = search rules

returns : tie.Need-returns-in-Check
unfolding refusal_lines
returns c =
    let l = c.count_line in
    let s = c in
    let w : length l.result.values ≡ most_values = search rules in
    subst (λ (k : Command). Shows c.with.result (refusal_lines k s.args.refusal s.args.line)) (sym c.in-Check.is)
    (added c.alone-alone.ensures (omega arith) l.result (count_line line_key s.args.line) w
    (one keys.Line s.args.line l.result s.requires.1 l.ensures) c.with.ensures)

returns_2 : tie.Need-returns-in_default
returns_2 c =
    let a = c.args in
    subst (Shows c.alone-alone.result) (sym (not_check a.command a.refusal a.line c.in_default.in_default-own.keys2)) c.alone-alone.ensures

pub refusal_lines_spec : {M : Type 1} → statement M
refusal_lines_spec =
    tie.close
    (tie.spec alone_requires enum_told count_line_requires with_requires returns returns_2)
