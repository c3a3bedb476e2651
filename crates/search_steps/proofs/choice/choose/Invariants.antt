use Rattle.std.proofs.Common.{◌≤◌, ◌<◌, IfSome}
use Rattle.sizes.specs.Sizes.{most_starts}
use Rattle.search_steps.proofs.choice.choose.Given as goal

abbrev pub invariant-loop-op : goal.invariant-loop-op
invariant-loop-op l = IfSome l.best (λ old. (old.slots ≤ most_starts) × (old.op < l.ops))
