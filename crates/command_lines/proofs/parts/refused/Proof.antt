-- `command_lines::parts::refused` meets its contract.
-- From what `headed`, `looped` and `alone` ensure, by the laws of an answer's lines.
use mathlib.Core.Path.{sym, subst}
use mathlib.Core.List.{[], ◌∷◌}
use lib.ListN.{take}
use Rattle.text.specs.Answers.{answer_line, interval_line}
use Rattle.command_lines.specs.Shows.{Shows}
use Rattle.command_lines.specs.Answers.{at_loop, at_else}
use native.Mathlib.Omega.{arith}
use borrow.Author.Rules.{rules}
use Rattle.command_lines.proofs.parts.refused.Statement.{statement}
use Rattle.command_lines.proofs.parts.refused.Tie as tie

headed_requires : tie.Need-headed-requires
headed_requires c κs = let p = c.requires.0 in (p.few, p.interval c.if-answer-eq-INFEASIBLE.true)

looped_requires : tie.Need-looped-requires
looped_requires c κs = let n = c.headed.ensures.count in (omega arith, c.requires.0.edges c.if-answer-eq-INFEASIBLE.true)

returns : tie.Need-returns-then-answer-eq-INFEASIBLE
returns c =
    let a = c.args in
    λ given.
    subst (Shows c.looped.result) (sym (at_loop a.answer a.interval (take a.count a.edges) given c.if-answer-eq-INFEASIBLE.true))
    (c.looped.ensures (answer_line a.answer ∷ interval_line a.interval ∷ []) c.headed.ensures)

alone_requires : tie.Need-alone-requires
alone_requires c κs = search rules

returns_2 : tie.Need-returns
returns_2 c =
    let a = c.args in
    λ given.
    subst (Shows c.alone.result) (sym (at_else a.answer a.interval (take a.count a.edges) given c.requires.1 c.if-answer-eq-INFEASIBLE.false)) c.alone.ensures

pub refused_spec : {M : Type 1} → statement M
refused_spec =
    tie.close (tie.spec headed_requires looped_requires returns alone_requires returns_2)
