-- The digits counted and those of what is left are the digits of n.
use Rattle.std.proofs.Common.{◌≡◌, ◌+◌, ◌^◌, ◌<◌, length}
use Rattle.text.specs.Text.{digits}
use Rattle.text.proofs.number.number_length.Given as goal

abbrev pub invariant-loop-left : goal.invariant-loop-left
invariant-loop-left l = record { small : l.left < 2 ^ 32; counted : l.count + length (digits l.left) ≡ length (digits l.n) + 1 }

abbrev pub decreases-loop-left : goal.decreases-loop-left
decreases-loop-left l = l.left
