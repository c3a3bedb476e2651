use Rattle.held_slots.proofs.meet.Goals as goal

pub returns-else-interval-eq0 : goal.returns-else-interval-eq0
returns-else-interval-eq0 c = c.meet_on_a_circle.ensures
