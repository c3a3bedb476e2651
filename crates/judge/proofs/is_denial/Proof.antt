-- `judge::is_denial` meets its contract, by its test. Assumes nothing.
use borrow.Author.Tests.{eq-eqb, ne_eqb}
use Rattle.judge.proofs.is_denial.Statement.{statement}
use Rattle.judge.proofs.is_denial.Tie as tie

returns : tie.Need-returns-then-answer-eq5
returns c = rw (eq-eqb c.args.answer 5 c.if-answer-eq5.true)

returns_2 : tie.Need-returns
returns_2 c = rw (ne_eqb c.args.answer 5 c.if-answer-eq5.false)

pub is_denial_spec : {M : Type 1} → statement M
is_denial_spec = tie.close (tie.spec returns returns_2)
