-- Each test is the field of the record that speaks of such a limit.
use Rattle.std.proofs.Common.{arith}
use Rattle.laws.specs.Tests.{last, lt_says, eq_says}
use Rattle.rules.proofs.instance_allowed.Goals as goal

pub returns-then-limit-eq0 : goal.returns-then-limit-eq0
returns-then-limit-eq0 c =
    let e = c.instances_of-limit.ensures in
    last (eq_says c.args.instance 0)
    (λ h. record { limited = λ l. absurd (omega (arith, c.if-limit-eq0.true)); unlimited = λ _. h })
    (λ p. p.unlimited (omega (arith, c.if-limit-eq0.true)))

pub returns-else-limit-eq0 : goal.returns-else-limit-eq0
returns-else-limit-eq0 c =
    let e = c.instances_of-limit.ensures in
    last (lt_says c.args.instance c.instances_of-limit.result)
    (λ h. record { limited = λ _. omega (arith, h); unlimited = λ z. absurd (omega (arith, c.if-limit-eq0.false)) })
    (λ p. omega (arith, p.limited (omega (arith, c.if-limit-eq0.false))))
