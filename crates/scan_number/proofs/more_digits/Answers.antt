-- Reading goes on at a digit only after a number that is not 0 and has at most three digits.
use Rattle.std.proofs.Common.{◌≡◌, ◌≤◌, arith}
use Rattle.text.specs.Sizes.{three_digits}
use Rattle.scan_number.proofs.Digits.{digit_small, digit_more}
use Rattle.scan_number.proofs.more_digits.Goals as goal

pub loop-i-preserved : goal.loop-i-preserved
loop-i-preserved c =
    let l = c.loop-i in
    let small = digit_small _ _ c.in-Digit.ensures in
    let no_zero : (l.v ≡ 0 → ⊥) = λ z. omega arith in
    let room : l.v ≤ three_digits = omega arith in
    let goes_on = digit_more c.args.s.now l.i (omega arith) _ c.in-Digit.ensures l.v no_zero room in
    record { small = omega arith; same = cc }
