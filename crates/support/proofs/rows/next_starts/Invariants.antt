use Rattle.std.proofs.Common.{◌≡◌, ◌+◌, length}
use Rattle.sizes.specs.Sizes.{most_starts}
use Rattle.support.specs.Support.{most_shift, Later, NextFrom}
use Rattle.support.proofs.rows.next_starts.Given as goal

abbrev pub invariant-loop-t : goal.invariant-loop-t
invariant-loop-t l = NextFrom l.row (l.t + most_starts) l.next × Later l.row l.t l.later × (length l.next ≡ most_shift + most_starts)
