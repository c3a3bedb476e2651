-- The C call of the page meets its contract.
-- From what reading the sheet and the service ensure.
use borrow.Author.Rules.{rules}
use Rattle.host.specs.Calls.{page_unread, page_served}
use Rattle.host.proofs.leastplan_page.Statement.{statement}
use Rattle.host.proofs.leastplan_page.Tie as tie

read_requires : tie.Need-read-read-requires
read_requires c κs = search rules

returns : tie.Need-returns-then-refusal-ne0
returns c = page_unread _ c.read-read.ensures c.if-refusal-ne0.true

page_requires : tie.Need-page-requires
page_requires c κs = search rules

same_length : tie.Need-shape_of-out
same_length c = search rules

returns_2 : tie.Need-returns
returns_2 c =
    let i = c in
    page_served _ i.read-read.ensures i.if-refusal-ne0.false c.page.ensures

pub leastplan_page_spec : {M : Type 1} → statement M
leastplan_page_spec =
    tie.close
    (tie.spec
    read_requires
    returns
    page_requires
    same_length
    returns_2)
