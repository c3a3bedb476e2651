use Rattle.std.proofs.Common.{◌≡◌, Bool, false, ◌||◌, refl, sym, ap, ◌∙◌, length-set, rules, arith}
use Rattle.std.proofs.lemmas.Grind.{common_steps}
use Rattle.laws.specs.Store.{store_more}
use Rattle.narrow.specs.Marks.{marked}
use Rattle.narrow.proofs.marked_in_either.Goals as goal
use Rattle.narrow.proofs.marked_in_either.Goals.{then-mark, else-mark}

-- the marks of a
pub loop-k-init : goal.loop-k-init
loop-k-init c = (search rules, λ i h. absurd (omega (arith, h)), λ i h. refl)

-- the mark of a, and where it has none that of b
pub loop-k-preserved : goal.loop-k-preserved
loop-k-preserved c =
    let l = c.loop-k in
    let both = λ (m : Bool). m || marked c.args.b l.k in
    let same : marked l.mark-items l.k ≡ marked c.args.a l.k = l.invariant.2 l.k (omega arith) in
    let here : c.if-mark.mark ≡ both (marked c.args.a l.k) = elim c.if-mark.branch [
      | then-mark w ↦ w.mark-is ∙ (w.if-mark.true ∙ sym (ap both (sym same ∙ w.if-mark.true)))
      | else-mark w ↦ w.mark-is ∙ sym (ap both (sym same ∙ w.if-mark.false))
    ] in (
      simp length-set l.invariant.0,
      store_more (λ i z. z ≡ (marked c.args.a i || marked c.args.b i)) l.mark-items l.k _ false (omega (arith, l.invariant.0, c.loop-k-test.true)) here l.invariant.1,
      λ i h. grind (arith, common_steps),
    )
