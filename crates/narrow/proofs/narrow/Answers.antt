use Rattle.std.proofs.Common.{refl}
use Rattle.narrow.proofs.narrow.Goals as goal

-- rule 1 is asked from a marked operation or from none
pub step-new-requires : goal.step-new-requires
step-new-requires c = (c.requires, refl, c.first_marked-i.ensures)
