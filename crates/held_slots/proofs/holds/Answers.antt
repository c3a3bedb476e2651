-- `holds` answers by the distance from the start.
use Rattle.std.proofs.Common.{◌∙◌, ap}
use Rattle.std.specs.Prelude.{ltb}
use Rattle.held_slots.specs.HeldLaws.{held_flag}
use Rattle.held_slots.proofs.holds.Goals as goal

pub returns : goal.returns
returns c = let a = c.args in ap (λ x. ltb x a.busy) c.offset.ensures ∙ held_flag a.interval a.busy a.t a.slot c.requires
