use Rattle.std.proofs.Common.{◌∙◌, mod-eq_of_lt}
use Rattle.std.proofs.Math.Nat.{add-mod_right}
use Rattle.domain.specs.Split.{part_self}
use Rattle.saturation_trims.specs.TrimLaws.{gone_more}
use Rattle.saturation_trims.proofs.without_slot.Goals as goal

pub loop-t-init : goal.loop-t-init
loop-t-init c = (mod-eq_of_lt c.requires.0, record { was = part_self _; stays = λ t h y f. y })

pub loop-t-preserved : goal.loop-t-preserved
loop-t-preserved c = let l = c.loop-t in (add-mod_right l.t c.args.interval ∙ l.invariant.0, gone_more _ _ l.t _ l.row l.invariant.0 l.invariant.1)

pub returns-2 : goal.returns-2
returns-2 c = let l = c.loop-t in gone_more _ _ l.t _ l.row l.invariant.0 l.invariant.1
