-- Each test is that of one field of the record.
use Rattle.std.proofs.Common.{rules}
use Rattle.laws.specs.Tests.{last}
use Rattle.sheet.proofs.edge_in_range.Goals.{then-edge-ops-2, else-edge-ops-2}
use Rattle.sheet.proofs.edge_in_range.Goals as goal

pub returns-then-inside : goal.returns-then-inside
returns-then-inside c =
    elim c.if-edge-ops-2.branch [
      | then-edge-ops-2 w ↦
          last c.inside_unsigned.ensures
          (λ e. record { from = w.if-edge-ops-2.true.0; to = w.if-edge-ops-2.true.1; delay = search rules; distance = e })
          (λ x. x.distance)
      | else-edge-ops-2 w ↦ cc
    ]
