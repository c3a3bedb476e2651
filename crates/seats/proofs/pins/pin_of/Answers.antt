use Rattle.std.proofs.Common.{sym, ◌∙◌, rules}
use Rattle.seats.proofs.pins.pin_of.Goals as goal
use Rattle.seats.proofs.pins.pin_of.Goals.{then-not-same, else-not-same}

-- the starts of the row are all in the slot of the least
pub returns-else-other_class : goal.returns-else-other_class
returns-else-other_class c = elim c.if-not-same.branch [
  | then-not-same w ↦ search rules
  | else-not-same w ↦ record { small = search rules; type = λ h. search rules; only = λ h. w.other_class.ensures.no (sym w.value-is ∙ c.if-other_class.false) }
]
