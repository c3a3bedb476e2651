-- `placing::refuse_offer` meets its contract: each number is the one that is due.
-- Assumes nothing.
use mathlib.Core.Path.{refl}
use Rattle.placing.proofs.refuse_offer.Statement.{statement}
use Rattle.placing.proofs.refuse_offer.Tie as tie

returns : tie.Need-returns
returns c = refl

pub refuse_offer_spec : {M : Type 1} → statement M
refuse_offer_spec = tie.close (tie.spec returns)
