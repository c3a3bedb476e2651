use Rattle.std.proofs.Common.{sym, ◌∙◌, arith}
use Rattle.std.proofs.lemmas.Result.{err_from_is_err_and}
use Rattle.refusal.specs.Number.{no_zero}
use Rattle.sheet.specs.AnswerLaws.{first_none, first_more, first_end, first_at_lem}
use Rattle.questions.proofs.first_refusal.Goals as goal

pub loop-line-init : goal.loop-line-init
loop-line-init g c = λ f h. first_none f

pub loop-line-preserved : goal.loop-line-preserved
loop-line-preserved g c = λ f h. first_more f _ (c.loop-line.invariant f h) (sym (h c.loop-line.line-index c.line-item.result _ c.loop-line-test.true c.line-item.is c.in_ok-answer.ensures))

pub returns-in_err-answer : goal.returns-in_err-answer
returns-in_err-answer g c = λ f h.
    let p = err_from_is_err_and c.from_residual.result c.from_residual.ensures.1 in
    let e = h c.loop-line.line-index c.line-item.result _ c.loop-line-test.true c.line-item.is c.in_err-answer.ensures in
    rw (p.1, p.2) (e ∙ sym (first_at_lem f _ c.loop-line.line-index c.loop-line-test.true (c.loop-line.invariant f h) (λ z. no_zero _ (e ∙ z))))

pub returns : goal.returns
returns g c = λ f h. sym (first_end f (omega arith) (omega arith) (c.loop-line.invariant f h))
