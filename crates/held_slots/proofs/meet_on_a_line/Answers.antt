-- `meet_on_a_line` answers by the distance from the lower start.
use Rattle.std.proofs.Common.{arith}
use Rattle.laws.specs.Tests.{last, lt_says}
use Rattle.held_slots.specs.HeldLaws.{meet_back, line_meet, meet_line}
use Rattle.held_slots.proofs.meet_on_a_line.Goals as goal

pub returns-then-t-u : goal.returns-then-t-u
returns-then-t-u c =
    let a = c.args in
    last (lt_says _ _) (λ h. line_meet a.first a.second a.t a.u (omega arith) h (omega arith)) (meet_line a.first a.second a.t a.u (omega arith))

pub returns-else-t-u : goal.returns-else-t-u
returns-else-t-u c =
    let a = c.args in
    last (lt_says _ _) (λ h. meet_back (line_meet a.second a.first a.u a.t (omega arith) h (omega arith)))
    (λ m. meet_line a.second a.first a.u a.t (omega arith) (meet_back m))
