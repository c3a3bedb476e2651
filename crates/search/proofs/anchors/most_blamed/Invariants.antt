use Rattle.std.proofs.Common.{◌<◌, IfSome}
use Rattle.search.proofs.anchors.most_blamed.Given as goal

abbrev pub invariant-loop-i : goal.invariant-loop-i
invariant-loop-i l = IfSome l.most (λ best. best < l.ops)
