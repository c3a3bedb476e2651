-- From the law of a number's digits and those of a tenth of it.
use Rattle.std.proofs.Common.{arith}
use Rattle.text.specs.Decimal.{digits_length, length_one, length_more}
use Rattle.text.proofs.number.number_length.Goals as goal

pub overflow_add-count : goal.overflow_add-count
overflow_add-count c = let d = digits_length c.args.n in omega arith

pub loop-left-preserved : goal.loop-left-preserved
loop-left-preserved c =
    let d = length_more c.loop-left.left c.loop-left-test.true c.loop-left.invariant.small in
    record { small = omega arith; counted = omega arith }

pub returns : goal.returns
returns c =
    let o = length_one c.loop-left.left (omega arith) in
    let d = digits_length c.args.n in
    (omega arith, omega arith)
