use Rattle.std.proofs.Common.{◌-◌, [], drop}
use Rattle.sizes.specs.Sizes.{most_operations}
use Rattle.plan_lines.specs.Lines.{places_from}
use Rattle.plan_lines.specs.Steps.{Turn}
use Rattle.plan_lines.proofs.read_places.Given as goal

abbrev pub invariant-loop-p : goal.invariant-loop-p
invariant-loop-p l = Turn l.s l.interval (places_from most_operations l.interval [] [] (drop l.fn.at l.s)) l.starts l.instances l.p l.i

abbrev pub decreases-loop-p : goal.decreases-loop-p
decreases-loop-p l = most_operations - l.i
