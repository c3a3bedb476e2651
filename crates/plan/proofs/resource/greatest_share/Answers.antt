-- It is the greatest of the shares of the types passed.
use Rattle.std.proofs.Common.{◌≡◌, ℕ, max, sym, ap, ap₂, ◌∙◌, arith}
use Rattle.sheet.specs.Sheet.{type_at}
use Rattle.sheet.specs.Facts.{instances_most, busy_most}
use Rattle.plan.specs.Resource.{share_of, greatest}
use Rattle.plan.specs.ResourceLaws.{share_at, operations_small, greatest_none, greatest_more, bound_is_greatest}
use Rattle.plan.proofs.resource.greatest_share.Goals as goal

pub loop-r-init : goal.loop-r-init
loop-r-init c = sym (greatest_none _)

pub share-asked-requires : goal.share-asked-requires
share-asked-requires c =
    let ok = c.requires in
    (omega (arith, c.operations_of.ensures, operations_small ok c.loop-r.r), instances_most ok c.loop-r.r c.loop-r-test.true, busy_most ok c.loop-r.r c.loop-r-test.true)

pub loop-r-preserved : goal.loop-r-preserved
loop-r-preserved c =
    let s = c.args.sheet in
    let q = c.share-asked.ensures ∙ ap (λ (x : ℕ). share_of x (type_at s c.loop-r.r)) c.operations_of.ensures in
    c.max-most.ensures ∙ ap₂ max c.loop-r.invariant q ∙ sym (greatest_more c.loop-r.r (share_at s))

pub returns : goal.returns
returns c =
    let s = c.args.sheet in
    let e : c.loop-r.r ≡ s.type_count = omega arith in
    c.loop-r.invariant ∙ ap (λ (m : ℕ). greatest m (share_at s)) e ∙ bound_is_greatest s
