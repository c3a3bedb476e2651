-- The first instance that is free is the lowest, and above the room none is allowed.
use Rattle.std.proofs.Common.{arith, below_more}
use Rattle.placing_table.specs.Vacancies.{first_free, none_free}
use Rattle.placing_table.proofs.free.lowest_free.Goals as goal

pub loop-u-init : goal.loop-u-init
loop-u-init c = λ v h. absurd (omega arith)

pub returns-then-is_free : goal.returns-then-is_free
returns-then-is_free c = first_free c.loop-u.invariant (c.is_free.ensures.yes c.if-is_free.true)

pub loop-u-preserved : goal.loop-u-preserved
loop-u-preserved c = below_more _ _ c.loop-u.invariant (c.is_free.ensures.no c.if-is_free.false)

pub returns : goal.returns
returns c = none_free c.room-limit.ensures (λ v h. c.loop-u.invariant v (omega arith))
