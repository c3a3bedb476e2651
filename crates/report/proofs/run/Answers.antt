-- From the laws of a run and the bounds of an interval's lines.
use Rattle.std.proofs.Common.{arith, [], ◌∷◌}
use Rattle.text.specs.Bounds.{answer_most_lem}
use Rattle.text.specs.Writing.{part_length}
use Rattle.text.specs.Answers.{answer_line}
use Rattle.sheet.specs.Facts.{cap_most}
use Rattle.interval_lines.specs.IntervalLines.{interval_lines}
use Rattle.interval_lines.specs.Small.{small}
use Rattle.report.specs.Print.{none, stops}
use Rattle.report.specs.Bounds.{lines_most, refusal_most_lem, answer_short}
use Rattle.report.specs.Printing.{start, same_size, finish, again}
use Rattle.report.proofs.run.Goals as goal

pub loop-interval-init : goal.loop-interval-init
loop-interval-init c = record { short = omega arith; lines = start c.args.sheet c.args.out.now }

pub slice_bounds-fill-count : goal.slice_bounds-fill-count
slice_bounds-fill-count c = let z = same_size c.loop-interval.invariant.lines in let f = c.loop-interval.invariant.lines.fits in omega arith

pub fill-at-requires : goal.fill-at-requires
fill-at-requires c =
    let l = c.loop-interval in
    let i = l.invariant.short in
    let r = c.requires.1 in
    let t = c.loop-interval-test.true in
    let m = cap_most c.requires.0 in
    let z = same_size l.invariant.lines in
    let n = part_length l.out l.at (omega arith) in
    let k = small c.requires.0 (record { low = omega arith; high = omega arith }) c.plan_at-a.ensures in
    let b = lines_most c.args.sheet l.interval c.plan_at-a.result k in
    (k, omega arith)

pub overflow_add-at : goal.overflow_add-at
overflow_add-at c =
    let l = c.loop-interval in
    let i = l.invariant.short in
    let r = c.requires.1 in
    let t = c.loop-interval-test.true in
    let m = cap_most c.requires.0 in
    let k = small c.requires.0 (record { low = omega arith; high = omega arith }) c.plan_at-a.ensures in
    let b = lines_most c.args.sheet l.interval c.plan_at-a.result k in
    let f = c.fill-at.ensures.value in
    omega arith

pub returns-then-a-eq0 : goal.returns-then-a-eq0
returns-then-a-eq0 c =
    let l = c.loop-interval in
    let a = c.plan_at-a in
    let i = l.invariant.short in
    let r = c.requires.1 in
    let t = c.loop-interval-test.true in
    let m = cap_most c.requires.0 in
    let k = small c.requires.0 (record { low = omega arith; high = omega arith }) a.ensures in
    let b = lines_most c.args.sheet l.interval a.result k in
    finish l.invariant.lines (interval_lines c.args.sheet l.interval a.result) (stops (omega arith) a.ensures c.if-a-eq0.true) (omega arith) c.fill-at.ensures.value c.fill-at.ensures.out_after

pub loop-interval-preserved : goal.loop-interval-preserved
loop-interval-preserved c =
    let l = c.loop-interval in
    let a = c.plan_at-a in
    let i = l.invariant.short in
    let r = c.requires.1 in
    let t = c.loop-interval-test.true in
    let m = cap_most c.requires.0 in
    let k = small c.requires.0 (record { low = omega arith; high = omega arith }) a.ensures in
    let b = lines_most c.args.sheet l.interval a.result k in
    let d = refusal_most_lem c.args.sheet l.interval a.result k c.if-a-eq0.false in
    let f = c.fill-at.ensures in
    let e = f.value in
    record { short = omega arith; lines = again l.invariant.lines a.result (omega arith) a.ensures c.if-a-eq0.false (omega arith) f.value f.out_after }

pub slice_bounds-put_answer-count : goal.slice_bounds-put_answer-count
slice_bounds-put_answer-count c = let z = same_size c.loop-interval.invariant.lines in let f = c.loop-interval.invariant.lines.fits in omega arith

pub put_answer-requires : goal.put_answer-requires
put_answer-requires c =
    let l = c.loop-interval in
    let i = l.invariant.short in
    let r = c.requires.1 in
    let m = cap_most c.requires.0 in
    let z = same_size l.invariant.lines in
    let n = part_length l.out l.at (omega arith) in
    (omega arith, omega arith)

pub overflow_add-result : goal.overflow_add-result
overflow_add-result c =
    let l = c.loop-interval in
    let i = l.invariant.short in
    let r = c.requires.1 in
    let m = cap_most c.requires.0 in
    let b = answer_short (omega arith) c.put_answer.ensures.value in
    omega arith

pub returns : goal.returns
returns c =
    let l = c.loop-interval in
    let i = l.invariant.short in
    let r = c.requires.1 in
    let m = cap_most c.requires.0 in
    let b = answer_most_lem 7 (omega arith) in
    finish l.invariant.lines (answer_line 7 ∷ []) (none (omega arith)) (omega arith) c.put_answer.ensures.value c.put_answer.ensures.out_after
