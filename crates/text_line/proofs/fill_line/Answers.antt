-- From the laws of a text written piece by piece.
use Rattle.std.proofs.Common.{rules, arith, ◌≡◌, ◌+◌, ◌-◌, ℤ, pos, List, ◌++◌, sym, ap, ◌∙◌, length, drop, get_or, length-append, to_z, of_z, w32}
use Rattle.text.specs.Text.{joined}
use Rattle.text.specs.Line.{key_of, text_of}
use Rattle.text.specs.Joined.{value_text, value_length, joined_front, joined_end, text_is}
use Rattle.text.specs.Writing.{pasted}
use Rattle.text.specs.Progress.{begin, to, room, next, finish}
use Rattle.text_line.proofs.fill_line.Goals as goal

pub put_key-at-requires : goal.put_key-at-requires
put_key-at-requires c =
    let t = ap length (text_is c.args.line) ∙ length-append (key_of c.args.line.key) _ in
    omega arith

pub loop-i-init : goal.loop-i-init
unfolding pasted
loop-i-init c =
    let a = c.args.line in
    let vs = c.numbers-numbers.result.now in
    let k = c.put_key-at.ensures in
    let e = text_is a ∙ ap (λ (x : List ℤ). key_of a.key ++ joined x) (sym c.numbers-numbers.ensures.value) in
    next (key_of a.key) (joined vs) (to e (begin (text_of a) c.args.out.now c.requires)) (omega (arith, k.0)) k.1

pub put_value-at-requires : goal.put_value-at-requires
put_value-at-requires c =
    let l = c.loop-i in
    let vs = c.numbers-numbers.result.now in
    let v = get_or vs l.i (pos 0) in
    let k : to_z w32 (of_z w32 v) ≡ v = search rules in
    let more = length vs - l.i - 1 in
    let r = room (value_text v more) (joined (drop (l.i + 1) vs)) (to (joined_front vs l.i c.loop-i-test.true) l.invariant) in
    let h = value_length v more in
    rw k (omega arith)

pub loop-i-preserved : goal.loop-i-preserved
loop-i-preserved c =
    let l = c.loop-i in
    let vs = c.numbers-numbers.result.now in
    let v = get_or vs l.i (pos 0) in
    let k : to_z w32 (of_z w32 v) ≡ v = search rules in
    let p = rw k at c.put_value-at.ensures in
    next (value_text v (length vs - l.i - 1)) (joined (drop (l.i + 1) vs)) (to (joined_front vs l.i c.loop-i-test.true) l.invariant) p.0 p.1

pub returns : goal.returns
returns c = finish (to (joined_end c.numbers-numbers.result.now c.loop-i.i (omega arith)) c.loop-i.invariant)
