-- From what the writer of each kind of line ensures, and the places of the lines.
use Rattle.std.proofs.Common.{sym, ap, ◌∙◌, arith}
use Rattle.text.specs.Keys.{answer_key, interval_key}
use Rattle.text.specs.Lines.{line_text_of}
use Rattle.text.specs.Joined.{one_number}
use Rattle.interval_lines.specs.Places.{count_5, only_plan, answer_place, interval_place, loop_place, at_place}
use Rattle.interval_lines.proofs.line_at.Goals as goal

pub returns-then-i-eq0 : goal.returns-then-i-eq0
returns-then-i-eq0 c =
    let a = c.args in
    one_number answer_key a.a.answer (omega (arith, c.requires.0.answer)) c.count_line.ensures
    ∙ ap line_text_of (sym (answer_place a.s a.interval a.a a.i c.if-i-eq0.true))

pub returns-then-i-eq1 : goal.returns-then-i-eq1
returns-then-i-eq1 c =
    let a = c.args in
    one_number interval_key a.interval (omega (arith, c.requires.0.interval)) c.count_line-then-i-eq1.ensures
    ∙ ap line_text_of (sym (interval_place a.s a.interval a.a a.i c.if-i-eq1.true))

pub returns-then-a-eq5 : goal.returns-then-a-eq5
returns-then-a-eq5 c =
    let a = c.args in
    let n = count_5 a.s a.interval a.a c.if-a-eq5.true in
    let h = c.requires.1 in
    c.loop_line.ensures ∙ ap line_text_of (sym (loop_place a.s a.interval a.a a.i c.if-a-eq5.true (omega arith)))

pub offset_bounds-a-k : goal.offset_bounds-a-k
offset_bounds-a-k c =
    let p = only_plan c.args.s c.args.interval c.args.a c.args.i c.requires.1 c.if-a-eq5.false (omega arith) in
    omega (arith, p.1, c.requires.0.ops)

pub bounds-a-k : goal.bounds-a-k
bounds-a-k c =
    let p = only_plan c.args.s c.args.interval c.args.a c.args.i c.requires.1 c.if-a-eq5.false (omega arith) in
    omega (arith, p.1, c.requires.0.ops)

pub offset_bounds-a-k-2 : goal.offset_bounds-a-k-2
offset_bounds-a-k-2 c =
    let p = only_plan c.args.s c.args.interval c.args.a c.args.i c.requires.1 c.if-a-eq5.false (omega arith) in
    omega (arith, p.1, c.requires.0.ops)

pub bounds-a-k-2 : goal.bounds-a-k-2
bounds-a-k-2 c =
    let p = only_plan c.args.s c.args.interval c.args.a c.args.i c.requires.1 c.if-a-eq5.false (omega arith) in
    omega (arith, p.1, c.requires.0.ops)

pub returns : goal.returns
returns c =
    let a = c.args in
    let p = only_plan a.s a.interval a.a a.i c.requires.1 c.if-a-eq5.false (omega arith) in
    c.at_line.ensures ∙ ap line_text_of (sym (at_place a.s a.interval a.a a.i p.0 (omega arith) p.1))
