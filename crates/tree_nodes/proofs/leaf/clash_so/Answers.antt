-- Of one operation the test is denied, of two each test is one field of the record.
use Rattle.std.proofs.Common.{◌≡◌, true, sym, ◌∙◌, eq-eqb, eqb-true}
use Rattle.laws.specs.Z.{true_false}
use Rattle.laws.specs.Says.{no_says, says_true}
use Rattle.laws.specs.Tests.{last}
use Rattle.plan.specs.Rules as plan
use Rattle.denial.specs.Passes.{Pinned}
use Rattle.tree_boxes.specs.Bounds.{box_of}
use Rattle.tree_nodes.specs.Leaves.{clash_both, both_clash, own_says}
use Rattle.tree_nodes.proofs.leaf.clash_so.Goals as goal
use Rattle.tree_nodes.proofs.leaf.clash_so.Goals.{then-pinned, else-pinned, then-pinned-2, else-pinned-2, then-b-i, else-b-i}

pub returns-then-i-j : goal.returns-then-i-j
returns-then-i-j c =
    let a = c.args in
    own_says a.sheet a.interval (box_of a.b) 0 c.holds_allowed.result c.if-i-j.true c.holds_allowed.ensures

pub returns-then-rivals : goal.returns-then-rivals
returns-then-rivals c =
    let a = c.args in
    let b = box_of a.b in
    let rivals : (c.if-pinned-2.value ≡ true) × plan.Rivals a.sheet a.i a.j = elim c.if-b-i.branch [
      | then-b-i w ↦ (w.if-b-i.true, w.rivals.ensures.yes (sym w.value-is ∙ c.if-rivals.true))
      | else-b-i w ↦ true_false (sym c.if-rivals.true ∙ w.value-is ∙ w.if-b-i.false)
    ] in
    let same : (c.if-pinned.value ≡ true) × (b.first a.i ≡ b.first a.j) = elim c.if-pinned-2.branch [
      | then-pinned-2 w ↦ (w.if-pinned-2.true, eqb-true _ _ (sym w.value-is ∙ rivals.0))
      | else-pinned-2 w ↦ true_false (sym rivals.0 ∙ w.value-is ∙ w.if-pinned-2.false)
    ] in
    let both : Pinned b a.i × Pinned b a.j = elim c.if-pinned.branch [
      | then-pinned w ↦ (c.pinned.ensures.yes w.if-pinned.true, w.pinned-then-pinned.ensures.yes (sym w.value-is ∙ same.0))
      | else-pinned w ↦ true_false (sym same.0 ∙ w.value-is ∙ w.if-pinned.false)
    ] in
    last {P = plan.Overlap a.sheet a.interval a.i (b.lowest a.i) a.j (b.lowest a.j)} c.overlap.ensures
    (λ x. both_clash a.sheet a.interval b
    (record { rivals = rivals.1; one = both.0; other = both.1; same = same.1; overlap = x }))
    (λ x. (clash_both a.sheet a.interval b c.if-i-j.false x).overlap)

pub returns-else-rivals : goal.returns-else-rivals
returns-else-rivals c =
    let a = c.args in
    let b = box_of a.b in
    rw c.if-rivals.false (no_says (λ x.
    let y = clash_both a.sheet a.interval b c.if-i-j.false x in
    let one : c.if-pinned.value ≡ true = elim c.if-pinned.branch [
      | then-pinned w ↦ w.value-is ∙ says_true _ w.pinned-then-pinned.ensures y.other
      | else-pinned w ↦ true_false (sym (says_true _ c.pinned.ensures y.one) ∙ w.if-pinned.false)
    ] in
    let two : c.if-pinned-2.value ≡ true = elim c.if-pinned-2.branch [
      | then-pinned-2 w ↦ w.value-is ∙ eq-eqb _ _ y.same
      | else-pinned-2 w ↦ true_false (sym one ∙ w.if-pinned-2.false)
    ] in
    let three : c.if-b-i.value ≡ true = elim c.if-b-i.branch [
      | then-b-i w ↦ w.value-is ∙ says_true _ w.rivals.ensures y.rivals
      | else-b-i w ↦ true_false (sym two ∙ w.if-b-i.false)
    ] in
    true_false (sym three ∙ c.if-rivals.false)))
