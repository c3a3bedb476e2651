-- From the laws of the text of a line's numbers.
use Rattle.std.proofs.Common.{rules, arith, ◌≡◌, ◌+◌, ◌-◌, ℤ, pos, List, ap, ◌∙◌, length, drop, take, get_or, length-append, to_z, of_z, w32}
use Rattle.text.specs.Text.{joined}
use Rattle.text.specs.Line.{key_of}
use Rattle.text.specs.Joined.{value_text, value_length, joined_front, joined_end, text_is}
use Rattle.text_line.proofs.line_length.Goals as goal

pub loop-v-init : goal.loop-v-init
loop-v-init c =
    let l = c.args.line in
    let t = ap length (text_is l) ∙ length-append (key_of l.key) (joined (take l.count l.values)) in
    let e = ap (λ (vs : List ℤ). length (joined vs)) c.numbers-v-items.ensures.value in
    record { most = omega arith; rest = omega arith }

pub loop-v-preserved : goal.loop-v-preserved
loop-v-preserved c =
    let l = c.loop-v in
    let vs = c.numbers-v-items.result.now in
    let v = get_or vs l.v-index (pos 0) in
    let k : to_z w32 (of_z w32 v) ≡ v = search rules in
    let f = ap length (joined_front vs l.v-index c.loop-v-test.true)
    ∙ length-append (value_text v (length vs - l.v-index - 1)) (joined (drop (l.v-index + 1) vs)) in
    let h = value_length v (length vs - l.v-index - 1) in
    let q = rw k at c.signed_length.ensures in
    record { most = omega arith; rest = omega arith }

pub returns : goal.returns
returns c =
    let z = ap length (joined_end c.numbers-v-items.result.now c.loop-v.v-index (omega arith)) in
    (omega arith, omega arith)
