-- A leaf is one of three.
use Rattle.std.proofs.Common.{◌≡◌, ◌-◌, ◌≤◌, length, drop, arith, rules, length-drop, length-take-le}
use Rattle.sheet.specs.Facts.{ops_most}
use Rattle.scan_list.specs.List.{most_items}
use Rattle.denial.specs.Passes.{So}
use Rattle.denial.specs.Tree.{LeafKnown}
use Rattle.denial.specs.At.{rules_at}
use Rattle.tree_lines.specs.NodeLaws.{tail_of}
use Rattle.tree_nodes.proofs.leaf.leaf_so.Goals as goal

pub loop_so-requires-clause-below : goal.loop_so-requires-clause-below
unfolding LeafKnown
loop_so-requires-clause-below c = rw c.in-Loop.is at c.requires.4

pub late_so-requires-clause-in_range : goal.late_so-requires-clause-in_range
unfolding LeafKnown
late_so-requires-clause-in_range c =
    let p = c.requires in
    let k = rw c.in-Late.is at p.4 in
    let f = rw c.in-Late.is at p.3 in
    let l = c.in-Late.line in
    let whole : length l.values ≡ most_items = search rules in
    let q : l.count - 1 ≤ length (drop 1 l.values) = omega (arith, length-drop 1 l.values, whole, f.1) in
    (p.0, p.1, p.2, k.0, omega (arith, length-take-le (l.count - 1) (drop 1 l.values) q, f.1))

pub late_so-requires-clause-below : goal.late_so-requires-clause-below
unfolding LeafKnown
late_so-requires-clause-below c =
    let k = rw c.in-Late.is at c.requires.4 in
    let f = rw c.in-Late.is at c.requires.3 in
    let whole : length c.in-Late.line.values ≡ most_items = search rules in
    rw (tail_of _ _ whole f.0) k.1

pub clash_so-requires : goal.clash_so-requires
unfolding LeafKnown
clash_so-requires c =
    let k = rw c.in-Clash.is at c.requires.4 in
    let n = ops_most c.requires.0 in
    (omega (arith, k.0), omega (arith, k.1), c.requires.2)

pub returns-in-Loop : goal.returns-in-Loop
unfolding So rules_at
returns-in-Loop c = rw c.in-Loop.is c.loop_so.ensures

pub returns-in-Late : goal.returns-in-Late
unfolding So
returns-in-Late c =
    let f = rw c.in-Late.is at c.requires.3 in
    let whole : length c.in-Late.line.values ≡ most_items = search rules in
    rw c.in-Late.is (rw (tail_of _ _ whole f.0) at c.late_so.ensures)

pub returns-in-Clash : goal.returns-in-Clash
unfolding So
returns-in-Clash c = rw c.in-Clash.is c.clash_so.ensures
