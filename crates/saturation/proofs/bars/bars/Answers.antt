use Rattle.std.proofs.Common.{arith}
use Rattle.std.proofs.lemmas.List.{get_or-replicate}
use Rattle.sizes.specs.Sizes.{most_operations}
use Rattle.laws.specs.Entry.{vec}
use Rattle.saturation.specs.BarLaws.{caps_start, caps_next, caps_over, caps_full, widened_at, widened_small}
use Rattle.saturation.proofs.bars.bars.Goals as goal
use Rattle.saturation.proofs.bars.bars.Goals.{then-worth+else-cover-count, then-count-cover, else-count-cover, else-worth}

pub loop-w-init : goal.loop-w-init
loop-w-init c = let q = c.args in let k = q.case in
    (omega arith, caps_start k.ops (vec k.resource.now) k.interval k.instances k.busy k.kind q.s (omega arith) c.requires q.used.now q.reach.now (λ i h. get_or-replicate most_operations i 0 0 (omega (arith, k.ops_ok))))

pub returns-then-cover-count : goal.returns-then-cover-count
returns-then-cover-count c =
    let q = c.args in
    let k = q.case in
    caps_over k.ops (vec k.resource.now) k.interval k.instances k.busy k.kind q.s (omega arith) c.requires q.used.now q.reach.now
    (caps_next k.ops (vec k.resource.now) k.interval k.instances k.busy k.kind q.s (omega arith) c.requires q.used.now q.reach.now c.loop-w-test.true k.busy_some c.loop-w.invariant.1 (widened_at q.used.now c.slot_at-b.ensures.0 c.widened-cover.ensures)) c.inside-count.ensures c.if-cover-count.true

pub loop-w-preserved : goal.loop-w-preserved
loop-w-preserved c =
    let q = c.args in
    let k = q.case in
    let g = caps_next k.ops (vec k.resource.now) k.interval k.instances k.busy k.kind q.s (omega arith) c.requires q.used.now q.reach.now c.loop-w-test.true k.busy_some c.loop-w.invariant.1 (widened_at q.used.now c.slot_at-b.ensures.0 c.widened-cover.ensures) in (
      widened_small _ c.widened-cover.ensures k.instances_ok c.loop-w.invariant.0,
      elim c.if-worth.branch [
        | then-worth+else-cover-count w ↦ rw w.found-is (elim w.if-count-cover.branch [
          | then-count-cover w' ↦ rw w'.found-is (caps_full k.ops (vec k.resource.now) k.interval k.instances k.busy k.kind q.s (omega arith) c.requires q.used.now q.reach.now g w.inside-count.ensures (omega (arith, w'.if-count-cover.true)) w'.raise.ensures)
          | else-count-cover w' ↦ rw w'.found-is g
        ])
        | else-worth w ↦ rw w.found-is g
      ],
    )
