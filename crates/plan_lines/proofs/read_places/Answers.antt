use Rattle.std.proofs.Common.{arith}
use Rattle.plan_lines.specs.Steps.{stops, turn}
use Rattle.plan_lines.proofs.read_places.Goals as goal

-- The line at fault is the third and as many more as were read.
pub returns-in_default-clause-result_value : goal.returns-in_default-clause-result_value
returns-in_default-clause-result_value c =
    stops c.loop-p.invariant c.loop-p-test.true (omega arith) c.in_default.ensures.result_value

pub loop-p-preserved : goal.loop-p-preserved
loop-p-preserved c = turn c.loop-p.invariant c.loop-p-test.true (omega arith) _ _ _ c.in-Some.ensures.result_value
