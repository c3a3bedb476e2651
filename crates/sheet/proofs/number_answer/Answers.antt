use Rattle.std.proofs.Common.{sym}
use Rattle.sheet.specs.AnswerLaws.{number_judged, number_out}
use Rattle.sheet.proofs.number_answer.Goals as goal

pub returns-then-not-inside_unsigned : goal.returns-then-not-inside_unsigned
returns-then-not-inside_unsigned c = sym (number_out _ _ (c.inside_unsigned.ensures.no c.if-not-inside_unsigned.true))

pub returns : goal.returns
returns c = sym ((number_judged _ _).accepts (c.inside_unsigned.ensures.yes c.if-not-inside_unsigned.false))
