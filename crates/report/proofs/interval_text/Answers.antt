use Rattle.std.proofs.Common.{◌≡◌, ℕ, List, refl, sym, subst, ◌∙◌, arith}
use Rattle.refusal.specs.Number.{no_zero}
use Rattle.text.specs.Line.{refused}
use Rattle.sheet.specs.declared.Sheet.{Sheet}
use Rattle.sheet.specs.Questions.{AskedAt, accepted}
use Rattle.interval_lines.specs.Small.{small}
use Rattle.report.specs.IntervalText.{IntervalText, refusal, made}
use Rattle.report.proofs.interval_text.Goals as goal

-- of a refused sheet or interval, by its answer
told : {s : Sheet} {L n m : ℕ} {old : List ℕ} → n ≡ m → AskedAt s L m → (m ≡ 0 → ⊥) → IntervalText s L old (refused n) old
told {s} {L} e a z = refusal (subst (AskedAt s L) (sym e) a) (λ w. z (sym e ∙ w))

pub returns-in-Err : goal.returns-in-Err
returns-in-Err c = told (omega (arith, c.number.ensures)) c.in-Err.ensures (no_zero _)

pub put_interval-requires : goal.put_interval-requires
put_interval-requires c =
    let y = accepted c.in_default.ensures refl in
    small y.sheet y.interval c.plan_at-a.ensures

pub returns : goal.returns
returns c =
    let w = c.put_interval.ensures in
    made (accepted c.in_default.ensures refl) c.plan_at-a.ensures w.0 w.1
