-- `meet_on_a_circle` answers by the distance from the one start, then from the other.
use Rattle.std.proofs.Common.{arith, inl, inr, ⊎_elim, ltb-true, ltb-false}
use Rattle.held_slots.specs.HeldLaws.{close_meet, meet_close}
use Rattle.held_slots.proofs.meet_on_a_circle.Goals as goal

pub returns-then-offset-first : goal.returns-then-offset-first
returns-then-offset-first c =
    let a = c.args in
    record {
      yes = λ e. close_meet a.interval a.first a.second (omega arith) a.t a.u (omega arith) (omega arith) (inl (omega (arith, c.offset.ensures)));
      no = λ e m. omega (arith, ltb-false);
    }

pub returns-else-offset-first : goal.returns-else-offset-first
returns-else-offset-first c =
    let a = c.args in
    record {
      yes = λ e. close_meet a.interval a.first a.second (omega arith) a.t a.u (omega arith) (omega arith) (inr (omega (arith, c.offset-else-offset-first.ensures, ltb-true)));
      no = λ e m. ⊎_elim (λ h. omega (arith, c.offset.ensures, h)) (λ h. omega (arith, c.offset-else-offset-first.ensures, ltb-false, h))
          (meet_close a.interval a.first a.second (omega arith) a.t a.u m);
    }
