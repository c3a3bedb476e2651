use Rattle.std.proofs.Common.{◌≡◌, refl, length-set, arith}
use Rattle.std.proofs.lemmas.Grind.{common_steps}
use Rattle.laws.specs.Store.{store_more}
use Rattle.sheet.specs.Sheet.{type_at}
use Rattle.model.proofs.build.busy_of.Goals as goal

-- the slots of type r are stored, and the rest is as it was
pub loop-r-preserved : goal.loop-r-preserved
loop-r-preserved c =
    let l = c.loop-r in (
      simp length-set l.invariant.0,
      store_more (λ k z. z ≡ (type_at c.args.sheet k).busy) l.busy l.r _ 0 (omega (arith, l.invariant.0, c.loop-r-test.true, c.requires)) refl l.invariant.1,
      λ k h m. grind (arith, common_steps),
    )
