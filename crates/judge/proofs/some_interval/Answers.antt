use Rattle.std.proofs.Common.{sym, ◌∙◌}
use Rattle.refusal.specs.Number.{err_refuses, ok_passes}
use Rattle.judge.specs.Steps.{another_used, itself_used}
use Rattle.judge.proofs.some_interval.Goals as goal

pub returns-then-is_err : goal.returns-then-is_err
returns-then-is_err c = another_used c.requires c.asked.ensures (err_refuses _ (sym c.is_err.ensures.value ∙ c.if-is_err.true))

pub returns : goal.returns
returns c = itself_used c.requires c.asked.ensures (ok_passes _ (sym c.is_err.ensures.value ∙ c.if-is_err.false))
