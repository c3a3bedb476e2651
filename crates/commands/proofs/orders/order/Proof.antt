-- `commands::orders::order` meets its contract.
-- From what the service, `alone`, `with` and `denied` ensure, and that its numbers are small.
use mathlib.Core.Path.{◌≡◌, sym, subst}
use lib.ListN.{length}
use Rattle.text.specs.declared.Key.TheVariants as keys
use Rattle.text.specs.Sizes.{most_values}
use Rattle.text.specs.Keys.{order_key}
use Rattle.text.specs.Lines.{count_line}
use Rattle.command_lines.specs.Shows.{Shows, added, one, lists}
use Rattle.command_lines.specs.Printable.{order_sized, order_few}
use Rattle.command_lines.specs.Answers.{order_given, order_denied}
use Rattle.command_lines.specs.Prints as prints
use native.Mathlib.Omega.{arith}
use borrow.Author.Rules.{rules}
use Rattle.commands.proofs.orders.order.Statement.{statement}
use Rattle.commands.proofs.orders.order.Tie as tie

slot_order_requires : tie.Need-slot_order-found-requires
slot_order_requires c κs = search rules

alone_requires : tie.Need-alone-answered-requires
alone_requires c κs = (order_sized c.requires c.slot_order-found.ensures).few

count_line_requires : tie.Need-count_line-requires
count_line_requires c κs = search rules

with_requires : tie.Need-with-requires
with_requires c κs = search rules

returns : tie.Need-returns-then-found-eq0
returns c =
    let a = c.slot_order-found in
    let l = c.count_line in
    let w : length l.result.values ≡ most_values = search rules in
    lists (subst (Shows c.with.result) (sym (order_given a.result c.if-found-eq0.true))
    (added c.alone-answered.ensures (omega arith) l.result (count_line order_key a.result.order) w
    (one keys.Order a.result.order l.result (order_few c.requires a.ensures) l.ensures) c.with.ensures)) (prints.order a.ensures)

denied_requires : tie.Need-denied-requires
denied_requires c κs =
    let z = order_sized c.requires c.slot_order-found.ensures in (z.few, z.edges)

returns_2 : tie.Need-returns
returns_2 c =
    let a = c.slot_order-found in
    lists (subst (Shows c.denied.result) (sym (order_denied a.result c.if-found-eq0.false)) c.denied.ensures) (prints.order a.ensures)

pub order_spec : {M : Type 1} → statement M
order_spec =
    tie.close
    (tie.spec
    slot_order_requires
    alone_requires
    count_line_requires
    with_requires
    returns
    denied_requires
    returns_2)
