use Rattle.std.proofs.Common.{List, [], ℤ, refl, arith}
use Rattle.std.proofs.lemmas.List.{get_or-replicate}
use Rattle.sizes.specs.Sizes.{most_operations}
use Rattle.lags.specs.Lag.{lag_row}
use Rattle.dependence.specs.Step.{no_bad, some_bad}
use Rattle.dependence.specs.Answer.{zero_row, table_bad, table_found}
use Rattle.lags.proofs.lags.Goals as goal

-- no row yet
pub loop-i-init : goal.loop-i-init
loop-i-init c = record {
  long = refl;
  rows = λ x h. absurd (omega (arith, h));
  rest = λ x _ h. get_or-replicate {A = List ℤ} most_operations x zero_row [] h;
}

pub returns-in_default : goal.returns-in_default
returns-in_default c =
    let n = c.in_range.ensures.yes c.if-in_range.true in
    let v = c.interval_ok.ensures.yes c.if-interval_ok.true in
    let w = c.in_default.ensures in
    table_bad refl n v w.0 (some_bad _ _ w.0 c.net_of-net.ensures.1 w.1)

pub returns-after-loop-i : goal.returns-after-loop-i
returns-after-loop-i c =
    let n = c.in_range.ensures.yes c.if-in_range.true in
    let v = c.interval_ok.ensures.yes c.if-interval_ok.true in
    let l = c.loop-i in
    let a = c.net_of-net.ensures.1 in
    let r = l.invariant.rows 0 (omega (arith, c.loop-i-test.false, n.ops_some)) in
    table_found n v (no_bad _ _ _ a r.earliest.meets)
    (record { rows = λ i h. lag_row a (l.invariant.rows i (omega (arith, c.loop-i-test.false, h))); rest = λ i h k. l.invariant.rest i (omega (arith, h)) k })
