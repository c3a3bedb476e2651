-- `command_lines::parts::denied` meets its contract.
-- From what `alone` and `looped` ensure, by the laws of a denial's lines.
use mathlib.Core.Path.{sym, subst}
use mathlib.Core.List.{[], ◌∷◌}
use lib.ListN.{take}
use Rattle.text.specs.Answers.{answer_line}
use Rattle.command_lines.specs.Shows.{Shows}
use Rattle.command_lines.specs.Answers.{denial_loop, denial_else}
use native.Mathlib.Omega.{arith}
use borrow.Author.Rules.{rules}
use Rattle.command_lines.proofs.parts.denied.Statement.{statement}
use Rattle.command_lines.proofs.parts.denied.Tie as tie

alone_requires : tie.Need-alone-answered-requires
alone_requires c κs = search rules

looped_requires : tie.Need-looped-requires
looped_requires c κs = let n = c.alone-answered.ensures.count in (omega arith, c.requires.1 c.if-answer-eq-INFEASIBLE.true)

returns : tie.Need-returns-then-answer-eq-INFEASIBLE
returns c =
    let a = c.args in
    subst (Shows c.looped.result) (sym (denial_loop a.answer (take a.count a.edges) c.if-answer-eq-INFEASIBLE.true)) (c.looped.ensures (answer_line a.answer ∷ []) c.alone-answered.ensures)

returns_2 : tie.Need-returns
returns_2 c =
    let a = c.args in
    subst (Shows c.alone-answered.result) (sym (denial_else a.answer (take a.count a.edges) c.if-answer-eq-INFEASIBLE.false)) c.alone-answered.ensures

pub denied_spec : {M : Type 1} → statement M
denied_spec = tie.close (tie.spec alone_requires looped_requires returns returns_2)
