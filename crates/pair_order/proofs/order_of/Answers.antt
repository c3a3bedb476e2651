-- Each answer is a case of `Order`.
use Rattle.std.proofs.Common.{Less, Equal, Greater}
use Rattle.std.proofs.lemmas.Cmp.{ranked}
use Rattle.pair_order.specs.Answers.{same, first, second}
use Rattle.pair_order.proofs.order_of.Goals as goal

pub returns-in-Equal : goal.returns-in-Equal
returns-in-Equal c = same (ranked c.args.a c.args.b Equal c.in-Equal.ensures)

pub returns-in-Less : goal.returns-in-Less
returns-in-Less c = first (ranked c.args.a c.args.b Less c.in-Less.ensures)

pub returns-in-Greater : goal.returns-in-Greater
returns-in-Greater c = second (ranked c.args.a c.args.b Greater c.in-Greater.ensures)
