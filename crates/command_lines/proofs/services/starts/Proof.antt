-- `command_lines::services::starts` meets its contract.
-- From what the service, `start_lines` and `refused` ensure, and that its numbers are small.
use mathlib.Core.Path.{sym, subst}
use Rattle.sheet.specs.Facts.{ops_most}
use Rattle.timing.specs.Most.{starts_most}
use Rattle.command_lines.specs.Shows.{Shows, lists}
use Rattle.command_lines.specs.Printable.{starts_sized, starts_inside}
use Rattle.command_lines.specs.Answers.{at_given}
use Rattle.command_lines.specs.Prints as prints
use native.Mathlib.Omega.{arith}
use borrow.Author.Rules.{rules}
use Rattle.command_lines.proofs.services.starts.Statement.{statement}
use Rattle.command_lines.proofs.services.starts.Tie as tie

earliest_starts_requires : tie.Need-earliest_starts-found-requires
earliest_starts_requires c κs = search rules

start_lines_requires : tie.Need-start_lines-requires
start_lines_requires c κs =
    let e = c in
    let p = e.earliest_starts-found.ensures in
    let ok = e.requires in
    (ops_most ok, starts_inside ok p c.if-found-eq0.true, λ i. let h = starts_most p i in omega arith)

returns : tie.Need-returns-then-found-eq0
returns c =
    let e = c in
    lists (subst (Shows c.start_lines.result) (sym (at_given _ _ _ _ c.if-found-eq0.true)) c.start_lines.ensures) (prints.starts e.earliest_starts-found.ensures)

refused_requires : tie.Need-refused-requires
refused_requires c κs =
    let e = c in
    (starts_sized e.requires e.earliest_starts-found.ensures, c.if-found-eq0.false)

returns_2 : tie.Need-returns
returns_2 c = lists (c.refused.ensures _) (prints.starts c.earliest_starts-found.ensures)

pub starts_spec : {M : Type 1} → statement M
starts_spec =
    tie.close
    (tie.spec earliest_starts_requires start_lines_requires returns refused_requires returns_2)
