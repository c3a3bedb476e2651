use Rattle.std.proofs.Common.{sym}
use Rattle.sheet.specs.AnswerLaws.{edge_judged, edge_out}
use Rattle.sheet.proofs.edge_answer.Goals as goal

pub returns-then-not-edge_in_range : goal.returns-then-not-edge_in_range
returns-then-not-edge_in_range c = sym (edge_out _ _ (c.edge_in_range.ensures.no c.if-not-edge_in_range.true))

pub returns : goal.returns
returns c = sym ((edge_judged _ _).accepts (c.edge_in_range.ensures.yes c.if-not-edge_in_range.false))
