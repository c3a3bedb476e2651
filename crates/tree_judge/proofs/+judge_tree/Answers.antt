-- One law of `Verdicts` for each return.
use Rattle.std.proofs.Common.{drop, arith}
use Rattle.std.proofs.lemmas.Result.{err_from_is_err_and}
use Rattle.sheet.specs.Facts.{ops_most}
use Rattle.denial.specs.At.{rules_at}
use Rattle.tree_boxes.specs.Bounds.{box_of}
use Rattle.tree_nodes.specs.Counted.{counted}
use Rattle.tree_judge.specs.Verdicts.{judges_too_many, judges_malformed, leaf_known, judges_leaf, judges_deep}
use Rattle.tree_judge.specs.Verdicts.{cut_below, cut_known_lem, judges_first, first_line, judges_second, judges_both}
use Rattle.tree_judge.proofs.+judge_tree.Goals as goal

pub returns-then-line-gt-MOST_LINES : goal.returns-then-line-gt-MOST_LINES
returns-then-line-gt-MOST_LINES t c =
    judges_too_many (rules_at c.args.sheet c.args.interval) (box_of c.args.b) c.args.s.now c.args.sheet.op_count c.args.sheet.edge_count
    c.args.depth c.args.line (drop c.args.at c.args.s.now) c.if-line-gt-MOST_LINES.true

pub returns-in_default : goal.returns-in_default
returns-in_default t c =
    judges_malformed (rules_at c.args.sheet c.args.interval) (box_of c.args.b) c.args.s.now c.args.sheet.op_count c.args.sheet.edge_count
    c.args.depth c.args.line (drop c.args.at c.args.s.now) (omega (arith, c.if-line-gt-MOST_LINES.false)) c.in_default.ensures.result_value

pub leaf_so-so-requires : goal.leaf_so-so-requires
leaf_so-so-requires t c =
    let p = c.requires in
    let f = c.in-Some.ensures.node_fits in (
      p.0,
      p.1,
      p.2,
      counted c.in-Closing.leaf (rw c.in-Closing.is at f.node),
      leaf_known (rules_at c.args.sheet c.args.interval) (box_of c.args.b) c.args.s.now c.args.sheet.op_count c.args.sheet.edge_count
          c.args.depth c.args.line (drop c.args.at c.args.s.now) (omega (arith, c.if-line-gt-MOST_LINES.false)) c.in-Closing.leaf c.in-Some.found.next
          (rw c.in-Closing.is at c.in-Some.ensures.result_value),
    )

pub returns-in-Closing : goal.returns-in-Closing
returns-in-Closing t c =
    judges_leaf (rules_at c.args.sheet c.args.interval) (box_of c.args.b) c.args.s.now c.args.sheet.op_count c.args.sheet.edge_count
    c.args.depth c.args.line (drop c.args.at c.args.s.now) (omega (arith, c.if-line-gt-MOST_LINES.false)) c.in-Closing.leaf c.in-Some.found.next
    (rw c.in-Closing.is at c.in-Some.ensures.result_value)
    c.in-Some.ensures.node_fits.next c.leaf_so-so.ensures c.leaf_fault.ensures

pub returns-then-depth-eq0 : goal.returns-then-depth-eq0
returns-then-depth-eq0 t c =
    judges_deep (rules_at c.args.sheet c.args.interval) (box_of c.args.b) c.args.s.now c.args.sheet.op_count c.args.sheet.edge_count
    c.args.depth c.args.line (drop c.args.at c.args.s.now) (omega (arith, c.if-line-gt-MOST_LINES.false)) c.in-Cutting.cut c.in-Some.found.next
    (rw c.in-Cutting.is at c.in-Some.ensures.result_value) c.if-depth-eq0.true

pub up_to-below-requires : goal.up_to-below-requires
up_to-below-requires t c =
    let p = c.requires in
    let f = c.in-Some.ensures.node_fits in (
      cut_below (ops_most p.0) c.in-Cutting.cut (cut_known_lem (rules_at c.args.sheet c.args.interval) (box_of c.args.b) c.args.s.now c.args.sheet.op_count c.args.sheet.edge_count
          c.args.depth c.args.line (drop c.args.at c.args.s.now) (omega (arith, c.if-line-gt-MOST_LINES.false)) c.in-Cutting.cut c.in-Some.found.next
          (rw c.in-Cutting.is at c.in-Some.ensures.result_value)) (rw c.in-Cutting.is at f.node),
      p.2,
    )

pub above-rest-requires : goal.above-rest-requires
above-rest-requires t c =
    let p = c.requires in
    let f = c.in-Some.ensures.node_fits in (
      cut_below (ops_most p.0) c.in-Cutting.cut (cut_known_lem (rules_at c.args.sheet c.args.interval) (box_of c.args.b) c.args.s.now c.args.sheet.op_count c.args.sheet.edge_count
          c.args.depth c.args.line (drop c.args.at c.args.s.now) (omega (arith, c.if-line-gt-MOST_LINES.false)) c.in-Cutting.cut c.in-Some.found.next
          (rw c.in-Cutting.is at c.in-Some.ensures.result_value)) (rw c.in-Cutting.is at f.node),
      p.2,
    )

pub returns-in_err-first : goal.returns-in_err-first
returns-in_err-first t c =
    let p = err_from_is_err_and c.from_residual.result c.from_residual.ensures.1 in
    rw (p.1, p.2) (judges_first (rules_at c.args.sheet c.args.interval) (box_of c.args.b) c.args.s.now c.args.sheet.op_count c.args.sheet.edge_count
    c.args.depth c.args.line (drop c.args.at c.args.s.now) (omega (arith, c.if-line-gt-MOST_LINES.false)) c.in-Cutting.cut c.in-Some.found.next
    (rw c.in-Cutting.is at c.in-Some.ensures.result_value) (omega (arith, c.if-depth-eq0.false)) _ c.in_err-first.ensures)

pub judge_tree-requires-2 : goal.judge_tree-requires-2
judge_tree-requires-2 t c =
    let p = c.requires in
    let l = first_line (rules_at c.args.sheet c.args.interval) (box_of c.args.b) c.args.s.now c.args.sheet.op_count c.args.sheet.edge_count
    c.args.depth c.args.line (drop c.args.at c.args.s.now) (omega (arith, c.if-line-gt-MOST_LINES.false)) c.in-Cutting.cut c.in-Some.found.next
    (rw c.in-Cutting.is at c.in-Some.ensures.result_value) (omega (arith, c.if-depth-eq0.false)) _ c.in_ok-first.ensures in
    (omega (arith, c.decreases, c.if-depth-eq0.false), (p.0, p.1, c.above-rest.ensures.1, l.0, l.1))

pub returns-in_err-second : goal.returns-in_err-second
returns-in_err-second t c =
    let p = err_from_is_err_and c.from_residual-in_err-second.result c.from_residual-in_err-second.ensures.1 in
    rw (p.1, p.2) (judges_second (rules_at c.args.sheet c.args.interval) (box_of c.args.b) c.args.s.now c.args.sheet.op_count c.args.sheet.edge_count
    c.args.depth c.args.line (drop c.args.at c.args.s.now) (omega (arith, c.if-line-gt-MOST_LINES.false)) c.in-Cutting.cut c.in-Some.found.next
    (rw c.in-Cutting.is at c.in-Some.ensures.result_value) (omega (arith, c.if-depth-eq0.false)) _ c.in_ok-first.ensures _ c.in_err-second.ensures)

pub returns : goal.returns
returns t c =
    judges_both (rules_at c.args.sheet c.args.interval) (box_of c.args.b) c.args.s.now c.args.sheet.op_count c.args.sheet.edge_count
    c.args.depth c.args.line (drop c.args.at c.args.s.now) (omega (arith, c.if-line-gt-MOST_LINES.false)) c.in-Cutting.cut c.in-Some.found.next
    (rw c.in-Cutting.is at c.in-Some.ensures.result_value) (omega (arith, c.if-depth-eq0.false)) _ c.in_ok-first.ensures _ c.in_ok-second.ensures
    c.up_to-below.ensures.0 c.above-rest.ensures.0 c.cut_allowed-allowed.ensures c.cut_fault.ensures
