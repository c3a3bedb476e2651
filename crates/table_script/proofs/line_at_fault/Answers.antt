use Rattle.std.proofs.Common.{sym, arith}
use Rattle.table_script.specs.Walk.{first, fault_none, fault_over, fault_at_lem, again}
use Rattle.table_script.proofs.line_at_fault.Goals as goal

-- No line was read before the first.
pub loop-p-init : goal.loop-p-init
loop-p-init c = first c.args.bytes.now

-- A line is read as a step only where fewer than the most were.
pub loop-p-preserved : goal.loop-p-preserved
loop-p-preserved c = again c.loop-p.invariant c.loop-p-test.true (omega arith) (sym c.in-Some.ensures.result_value)

pub returns-then-i-ge-MOST_STEPS : goal.returns-then-i-ge-MOST_STEPS
returns-then-i-ge-MOST_STEPS c = fault_over c.loop-p.invariant c.loop-p-test.true (omega arith)

pub returns-in-None : goal.returns-in-None
returns-in-None c = fault_at_lem c.loop-p.invariant c.loop-p-test.true (sym c.in-None.ensures.result_value)

pub returns : goal.returns
returns c = fault_none c.loop-p.invariant c.loop-p-test.false
