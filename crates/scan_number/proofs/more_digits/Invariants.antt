-- The definition goes digit by digit as the loop does: reading on from here gives what reading on from the start gives.
use Rattle.std.proofs.Common.{◌≡◌, ◌≤◌, drop}
use Rattle.text.specs.Sizes.{four_digits}
use Rattle.scan_number.specs.Number.{more_digits}
use Rattle.scan_number.proofs.more_digits.Given as goal

abbrev pub invariant-loop-i : goal.invariant-loop-i
invariant-loop-i l = record {
  small : l.v ≤ four_digits;
  same : more_digits l.v (drop l.i l.s) ≡ more_digits l.fn.first (drop l.fn.at l.s);
}
