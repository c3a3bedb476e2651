-- The numbers before `i` stand in the array, and reading on after them makes what reading all makes.
use Rattle.std.proofs.Common.{◌≡◌, ◌≤◌, ◌-◌, length, take, drop, []}
use Rattle.scan_list.specs.List.{items_from}
use Rattle.scan_list.proofs.Lists.{Held}
use Rattle.scan_list.proofs.read_items.Given as goal

abbrev pub invariant-loop-i : goal.invariant-loop-i
invariant-loop-i l = record {
  within : l.p ≤ length l.s;
  held : Held l.i l.values;
  same : items_from (l.most - l.i) (take l.i l.values) (drop l.p l.s) ≡ items_from l.most [] (drop l.fn.start l.s);
}
