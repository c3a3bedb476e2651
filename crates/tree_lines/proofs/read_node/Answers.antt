-- The key that the line has picks the case of `node_of`.
use Rattle.tree_lines.specs.NodeLaws.{gives_split, gives_seat, gives_loop, gives_late, gives_clash, gives_none}
use Rattle.tree_lines.proofs.read_node.Goals as goal

pub returns-in-Some-clause-result_value : goal.returns-in-Some-clause-result_value
returns-in-Some-clause-result_value c =
    gives_split c.args.s.now c.args.at c.args.ops c.args.edges {l = c.in-Some.line} c.in-Some.ensures.items_fit
    c.in-Some.ensures.result_value
    c.cut_known.ensures c.node_if.ensures

pub returns-in-Some-read_list-clause-result_value : goal.returns-in-Some-read_list-clause-result_value
returns-in-Some-read_list-clause-result_value c =
    gives_seat c.args.s.now c.args.at c.args.ops c.args.edges {l = c.in-Some-read_list.line} c.in-Some-read_list.ensures.items_fit
    c.in_default.ensures.result_value
    c.in-Some-read_list.ensures.result_value
    c.cut_known-in-Some-read_list.ensures c.node_if-in-Some-read_list.ensures

pub returns-in-Some-read_list-2-clause-result_value : goal.returns-in-Some-read_list-2-clause-result_value
returns-in-Some-read_list-2-clause-result_value c =
    gives_loop c.args.s.now c.args.at c.args.ops c.args.edges {l = c.in-Some-read_list-2.line} c.in-Some-read_list-2.ensures.items_fit
    c.in_default.ensures.result_value
    c.in_default-read_list.ensures.result_value
    c.in-Some-read_list-2.ensures.result_value c.numbers_of.ensures
    c.loop_known.ensures c.node_if-in-Some-read_list-2.ensures

pub returns-in-Some-read_list-3-clause-result_value : goal.returns-in-Some-read_list-3-clause-result_value
returns-in-Some-read_list-3-clause-result_value c =
    gives_late c.args.s.now c.args.at c.args.ops c.args.edges {l = c.in-Some-read_list-3.line} c.in-Some-read_list-3.ensures.items_fit
    c.in_default.ensures.result_value
    c.in_default-read_list.ensures.result_value
    c.in_default-read_list-2.ensures.result_value
    c.in-Some-read_list-3.ensures.result_value c.numbers_of-in-Some-read_list-3.ensures c.in-Some-read_list-3.ensures.items_fit.some
    c.late_known.ensures c.node_if-in-Some-read_list-3.ensures

pub returns-in-Some-read_list-4-clause-result_value : goal.returns-in-Some-read_list-4-clause-result_value
returns-in-Some-read_list-4-clause-result_value c =
    gives_clash c.args.s.now c.args.at c.args.ops c.args.edges {l = c.in-Some-read_list-4.line} c.in-Some-read_list-4.ensures.items_fit
    c.in_default.ensures.result_value
    c.in_default-read_list.ensures.result_value
    c.in_default-read_list-2.ensures.result_value
    c.in_default-read_list-3.ensures.result_value
    c.in-Some-read_list-4.ensures.result_value c.clash_known.ensures c.node_if-in-Some-read_list-4.ensures

pub returns-clause-result_value : goal.returns-clause-result_value
returns-clause-result_value c =
    gives_none c.args.s.now c.args.at c.args.ops c.args.edges
    c.in_default.ensures.result_value
    c.in_default-read_list.ensures.result_value
    c.in_default-read_list-2.ensures.result_value
    c.in_default-read_list-3.ensures.result_value
    c.in_default-read_list-4.ensures.result_value
