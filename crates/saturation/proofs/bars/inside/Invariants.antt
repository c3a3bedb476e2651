use Rattle.std.proofs.Common.{◌≡◌, ◌≤◌}
use Rattle.laws.specs.Entry.{vec}
use Rattle.laws.specs.Count.{tally}
use Rattle.saturation_slots.specs.Saturation.{inside_b}
use Rattle.saturation.proofs.bars.inside.Given as goal

abbrev pub invariant-loop-i : goal.invariant-loop-i
invariant-loop-i l = (l.c ≤ l.i) × (l.c ≡ tally l.i (inside_b (vec l.case.resource.now) (vec l.reach) l.case.kind l.w))
