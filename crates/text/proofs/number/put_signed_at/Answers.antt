-- From the text of a number by its sign, and that of the mark.
use Rattle.std.proofs.Common.{ℕ, List, [], ◌∷◌, ap, ◌∙◌, sym, arith, length}
use Rattle.text.specs.Text.{digits}
use Rattle.text.specs.Signed.{mark_at, negative_at, positive_at}
use Rattle.text.specs.Writing.{pasted, paste_more}
use Rattle.text.proofs.number.put_signed_at.Goals as goal

pub put_byte_at-requires : goal.put_byte_at-requires
put_byte_at-requires c = let l = ap length (mark_at c.ranges.v c.if-v-eq-NO_NUMBER.true) in omega arith

pub returns-then-v-eq-NO_NUMBER : goal.returns-then-v-eq-NO_NUMBER
returns-then-v-eq-NO_NUMBER c =
    let t = mark_at c.ranges.v c.if-v-eq-NO_NUMBER.true in
    let l = ap length t in
    let p = c.put_byte_at.ensures in
    (omega arith, p.1 ∙ ap (λ (x : List ℕ). pasted c.args.at x c.args.out.now) (sym t))

pub put_byte_at-a-requires : goal.put_byte_at-a-requires
put_byte_at-a-requires c =
    let l = ap length (negative_at c.ranges.v c.if-v-eq-NO_NUMBER.false c.unsigned_abs-n.ensures.value c.if-v-lt0.true) in
    omega arith

pub put_number_at-requires : goal.put_number_at-requires
put_number_at-requires c =
    let l = ap length (negative_at c.ranges.v c.if-v-eq-NO_NUMBER.false c.unsigned_abs-n.ensures.value c.if-v-lt0.true) in
    omega arith

pub returns-then-v-lt0 : goal.returns-then-v-lt0
returns-then-v-lt0 c =
    let t = negative_at c.ranges.v c.if-v-eq-NO_NUMBER.false c.unsigned_abs-n.ensures.value c.if-v-lt0.true in
    let l = ap length t in
    let a = c.args in
    let p = c.put_number_at.ensures in
    let q = c.put_byte_at-a in (
      omega arith,
      p.1 ∙ ap (pasted q.result (digits c.unsigned_abs-n.result)) q.ensures.1
          ∙ paste_more (45 ∷ []) (digits c.unsigned_abs-n.result) a.out.now a.at q.result (omega arith) q.ensures.0
          ∙ ap (λ (x : List ℕ). pasted a.at x a.out.now) (sym t),
    )

pub put_number_at-requires-2 : goal.put_number_at-requires-2
put_number_at-requires-2 c =
    let l = ap length (positive_at c.ranges.v c.if-v-eq-NO_NUMBER.false c.unsigned_abs-n.ensures.value c.if-v-lt0.false) in
    omega arith

pub returns : goal.returns
returns c =
    let t = positive_at c.ranges.v c.if-v-eq-NO_NUMBER.false c.unsigned_abs-n.ensures.value c.if-v-lt0.false in
    let l = ap length t in
    let p = c.put_number_at-2.ensures in
    (omega arith, p.1 ∙ ap (λ (x : List ℕ). pasted c.args.at x c.args.out.now) (sym t))
