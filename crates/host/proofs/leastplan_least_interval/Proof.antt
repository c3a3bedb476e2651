-- The C call of the least interval meets its contract.
-- From what reading the sheet and the service ensure.
use borrow.Author.Rules.{rules}
use Rattle.host.specs.Calls.{least_unread, least_served}
use Rattle.host.proofs.leastplan_least_interval.Statement.{statement}
use Rattle.host.proofs.leastplan_least_interval.Tie as tie

read_requires : tie.Need-read-read-requires
read_requires c κs = search rules

returns : tie.Need-returns-then-answer-ne0
returns c = least_unread _ c.read-read.ensures c.if-answer-ne0.true

least_interval_requires : tie.Need-least_interval-requires
least_interval_requires c κs = search rules

returns_2 : tie.Need-returns
returns_2 c = least_served _ c.read-read.ensures c.if-answer-ne0.false c.least_interval.ensures

pub leastplan_least_interval_spec : {M : Type 1} → statement M
leastplan_least_interval_spec =
    tie.close
    (tie.spec
    read_requires
    returns
    least_interval_requires
    returns_2)
