-- From the laws of lines that go one after the other into a buffer.
use Rattle.std.proofs.Common.{ℕ, ◌+◌, ◌-◌, ◌≤◌, sym, subst, arith, take, drop, length}
use Rattle.text.specs.Line.{text_of}
use Rattle.text.specs.Writing.{count_within, part_length, part_size}
use Rattle.text.specs.Filling.{filled_none, filled_more, filled_all}
use Rattle.text_line.proofs.many.fill_lines.Goals as goal

pub loop-i-init : goal.loop-i-init
loop-i-init g c = record { within = omega arith; lines = λ ls w f. filled_none ls c.args.out.now f }

pub overflow_add-at : goal.overflow_add-at
overflow_add-at g c =
    let l = c.loop-i in
    let n = part_length l.out l.at l.invariant.within in
    let b = count_within (text_of c.line_at.result) (take (length l.out - l.at) (drop l.at l.out)) in
    let p = c.put_line-at.ensures.value in
    omega (arith, c.well_formed)

pub loop-i-preserved : goal.loop-i-preserved
loop-i-preserved g c =
    let l = c.loop-i in
    let h = c.loop-i-test.true in
    let p = c.put_line-at.ensures in
    let n = part_length l.out l.at l.invariant.within in
    let b = count_within (text_of c.line_at.result) (take (length l.out - l.at) (drop l.at l.out)) in
    let s = part_size l.out c.put_line-at.new.out l.at l.invariant.within c.put_line-at.auto.out in
    let e = p.value in
    record {
      within = subst (λ (k : ℕ). l.at + c.put_line-at.result ≤ k) (sym s) (omega arith);
      lines = λ ls w f. filled_more (l.invariant.lines ls w f) (omega (arith, w.count)) (w.each l.i h c.line_at.result c.line_at.ensures) p.value p.out_after;
    }

pub returns : goal.returns
returns g c = λ ls w f. filled_all (c.loop-i.invariant.lines ls w f) (omega (arith, w.count))
