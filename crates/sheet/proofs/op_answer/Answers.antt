use Rattle.std.proofs.Common.{sym, arith}
use Rattle.sheet.specs.AnswerLaws.{op_judged, op_out, op_empty}
use Rattle.sheet.proofs.op_answer.Goals as goal

pub returns-then-not-op_in_range : goal.returns-then-not-op_in_range
returns-then-not-op_in_range c = sym (op_out _ _ _ (c.op_in_range.ensures.no c.if-not-op_in_range.true))

pub returns-then-op : goal.returns-then-op
returns-then-op c = sym (op_empty _ _ _ (c.op_in_range.ensures.yes c.if-not-op_in_range.false) (λ w. absurd (omega arith)))

pub returns : goal.returns
returns c = sym ((op_judged _ _ _).accepts (c.op_in_range.ensures.yes c.if-not-op_in_range.false, c.if-op.false))
