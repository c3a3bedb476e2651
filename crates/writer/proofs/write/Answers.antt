-- From what `answer` and `put_text` ensure.
use Rattle.std.proofs.Common.{sym, ◌∙◌, arith}
use Rattle.refusal.specs.Number.{no_zero}
use Rattle.sheet.specs.AnswerLaws.{sheet_in, sheet_inside}
use Rattle.writer.specs.Wrote.{stopped, made}
use Rattle.writer.proofs.write.Goals as goal

pub returns-in-Err : goal.returns-in-Err
returns-in-Err c =
    let e = c.in-Err.ensures in
    stopped (omega (arith, c.number.ensures, e)) (λ x. no_zero _ (e ∙ sheet_in _ x))

pub put_text-requires : goal.put_text-requires
put_text-requires c = sheet_inside _ (sym c.in_default.ensures)

pub returns : goal.returns
returns c = made (sheet_inside _ (sym c.in_default.ensures)) c.put_text.ensures.0 c.put_text.ensures.1
