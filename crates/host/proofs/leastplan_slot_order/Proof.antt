-- The C call of the slot order meets its contract.
-- From what reading the sheet and the service ensure.
use borrow.Author.Rules.{rules}
use Rattle.host.specs.Calls.{order_unread, order_served}
use Rattle.host.proofs.leastplan_slot_order.Statement.{statement}
use Rattle.host.proofs.leastplan_slot_order.Tie as tie

read_requires : tie.Need-read-read-requires
read_requires c κs = search rules

returns : tie.Need-returns-then-answer-ne0
returns c = order_unread _ c.read-read.ensures c.if-answer-ne0.true

slot_order_requires : tie.Need-slot_order-found-requires
slot_order_requires c κs = search rules

returns_2 : tie.Need-returns
returns_2 c = order_served _ c.read-read.ensures c.if-answer-ne0.false c.slot_order-found.ensures

pub leastplan_slot_order_spec : {M : Type 1} → statement M
leastplan_slot_order_spec =
    tie.close
    (tie.spec
    read_requires
    returns
    slot_order_requires
    returns_2)
