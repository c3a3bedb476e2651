use Rattle.std.proofs.Common.{◌≡◌, ◌<◌, length}
use Rattle.sizes.specs.Sizes.{most_starts}
use Rattle.search_steps.proofs.choice.slots_seen.Given as goal

abbrev pub invariant-loop-allowed : goal.invariant-loop-allowed
invariant-loop-allowed l = (length l.seen ≡ most_starts) × (l.s < l.interval)
