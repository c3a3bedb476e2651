-- From the laws of the count of lines.
use Rattle.std.proofs.Common.{arith}
use Rattle.text.specs.Filling.{counted_none, counted_more, counted_all}
use Rattle.text_line.proofs.many.lines_length.Goals as goal

pub loop-i-init : goal.loop-i-init
loop-i-init g c = record { most = omega arith; lines = λ ls w. counted_none ls }

pub loop-i-preserved : goal.loop-i-preserved
loop-i-preserved g c =
    let l = c.loop-i in
    let h = c.loop-i-test.true in
    let q = c.line_length-total.ensures in
    let m = l.invariant.most in
    record {
      most = omega arith;
      lines = λ ls w. counted_more (l.invariant.lines ls w) (omega (arith, w.count)) (w.each l.i h c.line_at.result c.line_at.ensures) q.0 q.1;
    }

pub returns : goal.returns
returns g c = λ ls w. counted_all (c.loop-i.invariant.lines ls w) (omega (arith, w.count))
