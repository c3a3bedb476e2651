-- The definition goes number by number as the loop does: what is read on from here, after the numbers in the array, is
-- what is read from the start.
use Rattle.std.proofs.Common.{◌≡◌, ◌≤◌, ◌-◌, length, take, drop, []}
use Rattle.scan.specs.Line.{fields_from}
use Rattle.scan.proofs.Fields.{Filled}
use Rattle.scan.proofs.read_numbers.Given as goal

abbrev pub invariant-loop-i : goal.invariant-loop-i
invariant-loop-i l = record {
  within : l.next ≤ length l.s;
  filled : Filled l.i l.values;
  same : fields_from (l.count - l.i) l.minus (take l.i l.values) (drop l.next l.s) ≡ fields_from l.count l.minus [] (drop l.fn.start l.s);
}
