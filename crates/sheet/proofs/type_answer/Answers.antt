use Rattle.std.proofs.Common.{sym}
use Rattle.sheet.specs.AnswerLaws.{type_judged, type_out}
use Rattle.sheet.proofs.type_answer.Goals as goal

pub returns-then-not-type_in_range : goal.returns-then-not-type_in_range
returns-then-not-type_in_range c = sym (type_out _ (c.type_in_range.ensures.no c.if-not-type_in_range.true))

pub returns : goal.returns
returns c = sym ((type_judged _).accepts (c.type_in_range.ensures.yes c.if-not-type_in_range.false))
