-- From the law of a number's digits and those of a tenth of it.
use Rattle.std.proofs.Common.{ℕ, ◌+◌, ◌/◌, ◌%◌, ◌<◌, List, [], refl, sym, ap, ◌∙◌, arith, length}
use Rattle.std.proofs.Math.ListN.{set}
use Rattle.text.specs.Text.{digits, over}
use Rattle.text.specs.Decimal.{one_digit, digits_more, length_one, length_more}
use Rattle.text.specs.Writing.{over_more, over_none}
use Rattle.text.proofs.number.+put_number.Goals as goal

pub bounds-out-0 : goal.bounds-out-0
bounds-out-0 t c = let d = length_one c.args.n c.if-n-lt10.true in omega arith

pub returns-then-n-lt10 : goal.returns-then-n-lt10
returns-then-n-lt10 t c =
    let a = c.args in
    let old = a.out.now in
    let o = one_digit a.n c.if-n-lt10.true in
    let d = ap length o in (
      sym d,
      ap (λ (l : List ℕ). set l 0 (48 + a.n)) (sym (over_none old)) ∙ over_more [] old 0 (48 + a.n) refl (omega arith)
          ∙ ap (λ (l : List ℕ). over l old) (sym o),
    )

pub put_number-at-requires : goal.put_number-at-requires
put_number-at-requires t c =
    let d = length_more c.args.n c.if-n-lt10.false (omega arith) in
    (omega arith, omega arith)

pub bounds-out-at : goal.bounds-out-at
bounds-out-at t c = let d = length_more c.args.n c.if-n-lt10.false (omega arith) in omega arith

pub overflow_add-result : goal.overflow_add-result
overflow_add-result t c = let d = length_more c.args.n c.if-n-lt10.false (omega arith) in omega (arith, c.well_formed)

pub returns : goal.returns
returns t c =
    let a = c.args in
    let old = a.out.now in
    let p = c.put_number-at in
    let o = digits_more a.n c.if-n-lt10.false (omega arith) in
    let d = length_more a.n c.if-n-lt10.false (omega arith) in
    let w : p.result < length old = omega arith in (
      omega arith,
      ap (λ (l : List ℕ). set l p.result (48 + a.n % 10)) p.ensures.1
          ∙ over_more (digits (a.n / 10)) old p.result (48 + a.n % 10) p.ensures.0 w ∙ ap (λ (l : List ℕ). over l old) (sym o),
    )
