use Rattle.std.proofs.Common.{ℕ, refl, sym, ◌∙◌, arith}
use Rattle.std.proofs.lemmas.Result.{err_from_is_err_and}
use Rattle.laws.specs.Z.{true_false}
use Rattle.refusal.specs.Number.{no_zero}
use Rattle.sheet.specs.Facts.{ops_most}
use Rattle.sheet.specs.Questions.{accepted, refuses, goes_on, at_no, at_yes}
use Rattle.placing.proofs.asked.Goals as goal

pub returns-in_err-asked : goal.returns-in_err-asked
returns-in_err-asked c =
    let p = err_from_is_err_and c.from_residual.result c.from_residual.ensures.1 in
    rw (p.1, p.2) (refuses (λ (n : ℕ). n) c.in_err-asked.ensures (no_zero _) refl)

pub returns-then-not-consistent : goal.returns-then-not-consistent
returns-then-not-consistent c =
    goes_on (λ n. n) (accepted c.in_ok-asked.ensures refl) (at_no (c.consistent.ensures.no c.if-not-consistent.true) refl)

pub returns-then-not-target_in_range : goal.returns-then-not-target_in_range
returns-then-not-target_in_range c =
    goes_on (λ n. n) (accepted c.in_ok-asked.ensures refl) (at_yes (c.consistent.ensures.yes c.if-not-consistent.false)
    (at_no (c.target_in_range.ensures.no c.if-not-target_in_range.true) refl))

pub offset_bounds-table-op : goal.offset_bounds-table-op
offset_bounds-table-op c =
    let t = c.target_in_range.ensures.yes c.if-not-target_in_range.false in
    let h = ops_most (accepted c.in_ok-asked.ensures refl).sheet in
    omega (arith, t.operation)

pub bounds-table-op : goal.bounds-table-op
bounds-table-op c =
    let t = c.target_in_range.ensures.yes c.if-not-target_in_range.false in
    omega (arith, t.operation, ops_most (accepted c.in_ok-asked.ensures refl).sheet)

pub returns-then-p : goal.returns-then-p
returns-then-p c =
    goes_on (λ n. n) (accepted c.in_ok-asked.ensures refl) (at_yes (c.consistent.ensures.yes c.if-not-consistent.false)
    (at_yes (c.target_in_range.ensures.yes c.if-not-target_in_range.false) (at_no (λ f. true_false (sym c.if-p.true ∙ f)) refl)))

pub returns : goal.returns
returns c =
    goes_on (λ n. n) (accepted c.in_ok-asked.ensures refl) (at_yes (c.consistent.ensures.yes c.if-not-consistent.false)
    (at_yes (c.target_in_range.ensures.yes c.if-not-target_in_range.false) (at_yes c.if-p.false refl)))
