-- The C call of the plan text meets its contract.
-- From what reading the sheet and the service ensure.
use borrow.Author.Rules.{rules}
use Rattle.host.specs.Calls.{text_unread, text_served}
use Rattle.host.proofs.leastplan_plan_text.Statement.{statement}
use Rattle.host.proofs.leastplan_plan_text.Tie as tie

read_requires : tie.Need-read-read-requires
read_requires c κs = search rules

returns : tie.Need-returns-then-answer-ne0
returns c = text_unread _ c.read-read.ensures c.if-answer-ne0.true

plan_text_requires : tie.Need-plan_text-text-requires
plan_text_requires c κs = search rules

same_length : tie.Need-shape_of-out
same_length c = search rules

returns_2 : tie.Need-returns
returns_2 c = text_served _ c.read-read.ensures c.if-answer-ne0.false c.plan_text-text.ensures

pub leastplan_plan_text_spec : {M : Type 1} → statement M
leastplan_plan_text_spec =
    tie.close
    (tie.spec
    read_requires
    returns
    plan_text_requires
    same_length
    returns_2)
