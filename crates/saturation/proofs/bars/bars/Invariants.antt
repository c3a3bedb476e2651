use Rattle.std.proofs.Common.{◌*◌, ◌≤◌}
use Rattle.sizes.specs.Sizes.{most_operations}
use Rattle.laws.specs.Entry.{vec}
use Rattle.saturation.specs.BarLaws.{Caps}
use Rattle.saturation.proofs.bars.bars.Given as goal

abbrev pub invariant-loop-w : goal.invariant-loop-w
invariant-loop-w l =
    (l.cover.cap ≤ l.w * most_operations)
    × Caps l.case.ops (vec l.case.resource.now) l.case.interval l.case.instances l.case.busy l.case.kind l.s l.used l.reach l.w l.cover.covered l.cover.cap l.found.bar
