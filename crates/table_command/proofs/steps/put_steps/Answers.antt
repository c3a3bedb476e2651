-- By the laws of a script all of whose lines are steps.
use Rattle.std.proofs.Common.{arith}
use Rattle.placing.specs.Keeps.{new_empty}
use Rattle.table_script.specs.Ahead.{sound, never, further}
use Rattle.table_command.specs.Turns.{start, fits, again, all_ran}
use Rattle.table_command.proofs.steps.put_steps.Goals as goal

pub loop-p-init : goal.loop-p-init
loop-p-init c =
    let e = sound c.args.script.now c.requires.1 in
    (e.0, e.1, start c.args.out.now e.1 (new_empty c.new_table-new.ensures))

pub put_step-run-requires : goal.put_step-run-requires
put_step-run-requires c = (c.requires.0, fits c.requires.0 c.loop-p.invariant.2 c.loop-p-test.true c.requires.2)

pub loop-p-smaller : goal.loop-p-smaller
loop-p-smaller c =
    let r = c.in-Some.ensures in
    omega (arith, further _ _ c.loop-p-test.true r.within r.result_value, c.loop-p-test.true)

pub loop-p-preserved : goal.loop-p-preserved
loop-p-preserved c =
    let v = c.loop-p.invariant in
    (v.0, v.1, again c.requires.0 v.2 c.loop-p-test.true c.in-Some.ensures.result_value c.put_step-run.ensures)

pub returns-in_default : goal.returns-in_default
returns-in_default c = absurd (never c.loop-p.invariant.2.ahead c.loop-p-test.true c.in_default.ensures.result_value)

pub returns : goal.returns
returns c =
    let v = c.loop-p.invariant in
    all_ran c.requires.0 v.2 v.1 (omega (arith, c.loop-p-test.false))
