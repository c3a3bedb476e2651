-- The slice is the numbers of the line after the first.
use Rattle.std.proofs.Common.{◌≡◌, ◌<◌, ◌↔◌, List, ℕ, get_or, drop, take, length, rules, lt-ltb, subst}
use Rattle.std.specs.Prelude.{IsTrue, EachIndex}
use Rattle.scan_list.specs.List.{most_items}
use Rattle.tree_lines.specs.NodeLaws.{below_test, tail_of}
use Rattle.tree_lines.proofs.late_known.Goals as goal

pub returns-then-line-ops : goal.returns-then-line-ops
returns-then-line-ops c =
    let l = c.args.line in
    let whole : length l.values ≡ most_items = search rules in
    let below = λ (vs : List ℕ). IsTrue c.all_below.result ↔ EachIndex vs (λ k. get_or vs k 0 < c.args.edges) in
    rw (lt-ltb (get_or l.values 0 0) c.args.ops c.if-line-ops.true)
    (below_test c.args.edges (drop 1 (take l.count l.values)) c.all_below.result
    (subst below (tail_of l.count l.values whole c.requires.0) c.all_below.ensures))
