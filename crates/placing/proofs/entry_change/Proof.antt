-- `placing::entry_change` meets its contract: the entry of the table that `place` returns, stored in the table that
-- came, is that table. Assumes nothing.
use mathlib.Core.Path.{refl}
use borrow.Author.Rules.{rules}
use Rattle.placing.specs.Change.{as_changed}
use Rattle.placing.proofs.entry_change.Statement.{statement}
use Rattle.placing.proofs.entry_change.Tie as tie

place_requires : tie.Need-place-r-requires
place_requires c κs = search rules

entry_place_requires : tie.Need-entry_place-at-requires
entry_place_requires c κs = search rules

mul_entry : tie.Need-offset_bounds-after-at
mul_entry c = search rules

element_copy_out_entry : tie.Need-bounds-after-at
element_copy_out_entry c = search rules

returns : tie.Need-returns
returns c = (c.entry_place-at.ensures.0, as_changed c.well_formed.1.1.0.1.1.0.1.0.1 c.entry_place-at.ensures.1 c.place-r.ensures refl)

pub entry_change_spec : {M : Type 1} → statement M
entry_change_spec =
    tie.close
    (tie.spec place_requires entry_place_requires mul_entry element_copy_out_entry returns)
