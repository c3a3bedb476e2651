-- The slots that each of the two holds meet.
use Rattle.std.proofs.Common.{ℕ, subst}
use Rattle.laws.specs.Says.{Says}
use Rattle.held_slots.specs.Held.{Meet}
use Rattle.sheet.specs.Sheet.{type_of}
use Rattle.rules.proofs.overlap.Goals as goal

pub returns : goal.returns
returns c =
    let a = c.args in
    subst (λ (m : ℕ). Says (Meet a.interval m (type_of a.sheet a.j).busy a.t a.u) c.meet.result) c.busy_of.ensures
    (subst (λ (m : ℕ). Says (Meet a.interval c.busy_of.result m a.t a.u) c.meet.result) c.busy_of-2.ensures c.meet.ensures)
