-- `page_text::users::reserves` meets its contract.
-- From what `holds` ensures.
use borrow.Author.Tests.{not-true, not-false, eq-eqb, ne_eqb}
use borrow.Author.Rules.{rules}
use Rattle.page_text.proofs.users.reserves.Statement.{statement}
use Rattle.page_text.proofs.users.reserves.Tie as tie

returns : tie.Need-returns-then-not-p
returns c = let a = c.args in rw (not-true _ c.if-not-p.true)

returns_2 : tie.Need-returns-then-resource-r
returns_2 c =
    let a = c.args in rw (not-false _ c.if-not-p.false, ne_eqb a.resource a.r c.if-resource-r.true)

holds_requires : tie.Need-holds-requires
holds_requires c κs = search rules

returns_3 : tie.Need-returns
returns_3 c =
    let a = c.args in rw (not-false _ c.if-not-p.false, eq-eqb a.resource a.r c.if-resource-r.false, c.holds.ensures)

pub reserves_spec : {M : Type 1} → statement M
reserves_spec = tie.close (tie.spec returns returns_2 holds_requires returns_3)
