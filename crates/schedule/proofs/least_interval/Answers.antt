use Rattle.std.proofs.Common.{refl, ap, arith}
use Rattle.refusal.specs.Number.{no_zero}
use Rattle.sheet.specs.Facts.{cap_most}
use Rattle.sheet.specs.Questions.{at_no, at_yes, Accepted, sheet_accepted, sheet_refuses}
use Rattle.plan.specs.Answers.{interval_refused}
use Rattle.schedule.specs.Served.{none_below_one, none_more, least_answer}
use Rattle.schedule.proofs.least_interval.Goals as goal

pub returns-in-Err : goal.returns-in-Err
returns-in-Err c = sheet_refuses interval_refused c.in-Err.ensures (no_zero _) (ap interval_refused c.number.ensures)

pub loop-interval-init : goal.loop-interval-init
loop-interval-init c = (omega arith, omega arith, none_below_one _)

pub overflow_add-interval : goal.overflow_add-interval
overflow_add-interval c =
    let h = cap_most (sheet_accepted c.in_default.ensures refl) in
    omega (arith, c.loop-interval-test.true)

pub loop-interval-preserved : goal.loop-interval-preserved
loop-interval-preserved c =
    let y : Accepted _ _ = record { sheet = sheet_accepted c.in_default.ensures refl; interval = record { low = c.loop-interval.invariant.0; high = c.loop-interval-test.true } } in (
      omega arith,
      omega (arith, c.loop-interval-test.true),
      none_more c.loop-interval.invariant.2 y c.plan_at-plan.ensures c.if-found.false,
    )

pub returns : goal.returns
returns c =
    at_yes (sheet_accepted c.in_default.ensures refl) (at_no (λ x. c.loop-interval.invariant.2.none x.at x.interval.low (omega (arith, x.interval.high, c.loop-interval-test.false)) x.plan) refl)

pub returns-then-found : goal.returns-then-found
returns-then-found c = at_yes (sheet_accepted c.in_default.ensures refl) (least_answer c.plan_at-plan.ensures c.if-found.true c.loop-interval.invariant.2)
