use Rattle.std.proofs.Common.{◌≤◌, ◌*◌, IfSome}
use Rattle.sizes.specs.Sizes.{most_operations}
use Rattle.seats.specs.Seating.{NextPin}
use Rattle.seats.proofs.next_pin.Given as goal

abbrev pub invariant-loop-i : goal.invariant-loop-i
invariant-loop-i l = (l.best ≤ l.case.interval * most_operations) × IfSome l.next (λ x. NextPin l.case l.from x)
