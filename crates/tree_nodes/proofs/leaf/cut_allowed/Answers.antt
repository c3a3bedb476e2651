-- Starts are always cut, instances where there are some.
use Rattle.std.proofs.Common.{arith}
use Rattle.laws.specs.Says.{yes_says}
use Rattle.laws.specs.Tests.{last, lt_says}
use Rattle.denial.specs.Passes.{Allowed}
use Rattle.denial.specs.At.{rules_at}
use Rattle.tree_nodes.proofs.leaf.cut_allowed.Goals as goal

pub returns-in-Split : goal.returns-in-Split
unfolding Allowed rules_at
returns-in-Split c = rw c.in-Split.is (yes_says tt)

pub returns-in-Seat : goal.returns-in-Seat
unfolding Allowed rules_at
returns-in-Seat c =
    let e = c.instances_of.ensures in
    rw c.in-Seat.is (last (lt_says 0 c.instances_of.result) (λ h. omega arith) (λ h. omega arith))
