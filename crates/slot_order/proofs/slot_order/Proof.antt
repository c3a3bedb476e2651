-- `slot_order::slot_order` meets its contract: the plan at the interval is what `plan_at` gives.
-- Assumes nothing.
use borrow.Author.Rules.{rules}
use Rattle.slot_order.proofs.slot_order.Statement.{statement}
use Rattle.slot_order.proofs.slot_order.Tie as tie

plan_at_requires : tie.Need-plan_at-plan-requires
plan_at_requires c κs = search rules

order_in_requires : tie.Need-order_in-requires
order_in_requires c κs = c.plan_at-plan.ensures

returns : tie.Need-returns
returns c = c.order_in.ensures

pub slot_order_spec : {M : Type 1} → statement M
slot_order_spec = tie.close (tie.spec plan_at_requires order_in_requires returns)
