use Rattle.std.proofs.Common.{ℕ, ◌+◌, sym, ap, ◌∙◌, arith}
use Rattle.refusal.specs.Number.{err_refuses, ok_passes}
use Rattle.plan_lines.specs.Lines.{first_at}
use Rattle.sheet.specs.Facts.{ops_most}
use Rattle.judge.specs.Steps.{unreadable_at, is_interval, no_interval, another_count, plan_interval, plan_kept, plan_broken, unbroken, first_one}
use Rattle.judge.proofs.plan_examined.Goals as goal

pub returns-then-count-ops : goal.returns-then-count-ops
returns-then-count-ops c =
    another_count c.args.sheet c.args.plan c.requires.1 c.if-count-ops.true
    (c.unreadable.ensures ∙ ap (λ (n : ℕ). unreadable_at (first_at + n)) c.lesser.ensures)

pub returns-then-is_err : goal.returns-then-is_err
returns-then-is_err c =
    plan_interval c.args.sheet c.args.plan c.requires.1 c.if-count-ops.false
    (no_interval c.requires.0 c.asked.ensures (err_refuses _ (sym c.is_err.ensures.value ∙ c.if-is_err.true)))

pub first_broken-broken-requires : goal.first_broken-broken-requires
first_broken-broken-requires c =
    (c.requires.0, is_interval c.requires.0 c.asked.ensures (ok_passes _ (sym c.is_err.ensures.value ∙ c.if-is_err.false)))

pub returns-then-broken-ops : goal.returns-then-broken-ops
returns-then-broken-ops c =
    plan_kept c.args.sheet c.args.plan c.requires.1 c.if-count-ops.false
    (is_interval c.requires.0 c.asked.ensures (ok_passes _ (sym c.is_err.ensures.value ∙ c.if-is_err.false)))
    (unbroken c.first_broken-broken.ensures c.if-broken-ops.true)

pub overflow_add-result : goal.overflow_add-result
overflow_add-result c = omega (arith, (first_one c.first_broken-broken.ensures c.if-broken-ops.false).operation, ops_most c.requires.0)

pub returns : goal.returns
returns c =
    plan_broken c.args.sheet c.args.plan c.requires.1 c.if-count-ops.false
    (is_interval c.requires.0 c.asked.ensures (ok_passes _ (sym c.is_err.ensures.value ∙ c.if-is_err.false))) _
    (first_one c.first_broken-broken.ensures c.if-broken-ops.false)
