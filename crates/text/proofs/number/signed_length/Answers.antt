-- From the text of a number by its sign, and that of the mark.
use Rattle.std.proofs.Common.{ap, arith, length}
use Rattle.text.specs.Signed.{mark_at, negative_at, positive_at}
use Rattle.text.proofs.number.signed_length.Goals as goal

pub returns-then-v-eq-NO_NUMBER : goal.returns-then-v-eq-NO_NUMBER
returns-then-v-eq-NO_NUMBER c =
    let l = ap length (mark_at c.ranges.v c.if-v-eq-NO_NUMBER.true) in
    (omega arith, omega arith)

pub returns-then-v-lt0 : goal.returns-then-v-lt0
returns-then-v-lt0 c =
    let l = ap length (negative_at c.ranges.v c.if-v-eq-NO_NUMBER.false c.unsigned_abs.ensures.value c.if-v-lt0.true) in
    (omega arith, omega arith)

pub returns : goal.returns
returns c =
    let l = ap length (positive_at c.ranges.v c.if-v-eq-NO_NUMBER.false c.unsigned_abs.ensures.value c.if-v-lt0.false) in
    (omega arith, omega arith)
