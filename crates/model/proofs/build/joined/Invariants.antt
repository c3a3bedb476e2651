use Rattle.std.proofs.Common.{◌≡◌, length}
use Rattle.model.specs.Task.{pairs}
use Rattle.model.proofs.build.joined.Given as goal

abbrev pub invariant-loop-k : goal.invariant-loop-k
invariant-loop-k l = length l.out ≡ pairs
