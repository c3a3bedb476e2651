use Rattle.std.proofs.Common.{◌≡◌, ◌∙◌, arith, length, to_z, of_z}
use Rattle.std.specs.Int.{w32}
use Rattle.scan.specs.Line.{most_numbers}
use Rattle.scan.proofs.Fields.{small_bits, filled_more, numbers_more}
use Rattle.scan.proofs.read_numbers.Goals as goal

pub loop-i-preserved : goal.loop-i-preserved
loop-i-preserved c =
    let l = c.loop-i in
    let v = c.in_ok-v.v in
    let r = c.in_ok-v.ensures in
    let n : length l.values ≡ most_numbers = l.invariant.filled.whole in
    let e : to_z w32 (of_z w32 v) ≡ v = small_bits v r.within_whole.1 in
    record {
      within = r.within_whole.0;
      filled = rw e (filled_more l.i l.values v (omega arith) l.invariant.filled r.within_whole.1);
      same = rw e (numbers_more _ _ l.i l.values _ c.loop-i-test.true (omega arith) v _ r.result_value ∙ l.invariant.same);
    }
