-- `command_lines::services::separations` meets its contract.
-- From what the two functions of the service, `rows` and `refused` ensure, and that its numbers are small.
use mathlib.Core.Path.{sym, subst}
use Rattle.sheet.specs.Facts.{ops_most}
use Rattle.command_lines.specs.Shows.{Shows, lists}
use Rattle.command_lines.specs.Printable.{walk_sized, walk_inside}
use Rattle.command_lines.specs.Answers.{at_given, no_table}
use Rattle.command_lines.specs.Prints as prints
use borrow.Author.Rules.{rules}
use Rattle.command_lines.proofs.services.separations.Statement.{statement}
use Rattle.command_lines.proofs.services.separations.Tie as tie

bad_walk_requires : tie.Need-bad_walk-walk-requires
bad_walk_requires c κs = search rules

separations_requires : tie.Need-separations-requires
separations_requires c κs = search rules

rows_requires : tie.Need-rows-requires
rows_requires c κs =
    let w = c in
    let ok = w.requires in
    (ops_most ok, walk_inside ok w.bad_walk-walk.ensures c.if-walk-eq0.true)

returns : tie.Need-returns-then-walk-eq0
returns c =
    let w = c.bad_walk-walk in
    lists (subst (Shows c.rows.result) (sym (at_given _ _ _ _ c.if-walk-eq0.true)) c.rows.ensures) (prints.separations w.ensures c.separations.ensures)

refused_requires : tie.Need-refused-requires
refused_requires c κs = let w = c in (walk_sized w.requires w.bad_walk-walk.ensures, c.if-walk-eq0.false)

returns_2 : tie.Need-returns
returns_2 c =
    let w = c.bad_walk-walk.ensures in
    lists (c.refused.ensures _) (prints.separations w (no_table w c.if-walk-eq0.false))

pub separations_spec : {M : Type 1} → statement M
separations_spec =
    tie.close
    (tie.spec
    bad_walk_requires
    separations_requires
    rows_requires
    returns
    refused_requires
    returns_2)
