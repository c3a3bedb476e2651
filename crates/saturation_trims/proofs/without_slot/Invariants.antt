use Rattle.std.proofs.Common.{◌≡◌, ◌%◌}
use Rattle.saturation_slots.specs.Saturation.{WithoutSlot}
use Rattle.saturation_trims.proofs.without_slot.Given as goal

abbrev pub invariant-loop-t : goal.invariant-loop-t
invariant-loop-t l = (l.t % l.interval ≡ l.slot) × WithoutSlot l.slot l.interval l.fn.row l.row
