-- Used instances in turn, then a new one for all.
use Rattle.std.proofs.Common.{◌≡◌, ◌+◌, length, subst, arith, rules}
use Rattle.std.proofs.lemmas.Option.{IfSome_then}
use Rattle.sizes.specs.Sizes.{most_instances}
use Rattle.seats.specs.declared.Seats.{Seats}
use Rattle.seats.specs.Seating.{key_of, Unseated, Left}
use Rattle.seats.specs.SeatingLaws.{left_clash, left_tried, seating_new}
use Rattle.seats.proofs.+seat.Goals as goal
use Rattle.seats.proofs.+seat.Goals.{then-free+in_ok-left-2, else-free}

-- a filling has all operations of the type
pub returns-then-room-case : goal.returns-then-room-case
returns-then-room-case t c = record { no = λ f k. let most = c.room.ensures.most f c.args.from k in omega (arith, c.if-room-case.true, most, f.many) }

pub loop-v-preserved : goal.loop-v-preserved
loop-v-preserved t c =
    let a = c.args in
    let x = c.in_ok-x.x in
    let z = c.in_ok-x.ensures in
    let last : length a.seats.last ≡ most_instances = search rules in
    let taken : length a.seats.taken ≡ most_instances = search rules in
    elim c.if-free.branch [
      | then-free+in_ok-left-2 w ↦ left_tried a.case a.from a.seats c.requires.0 x z.op z c.loop-v-test.true (omega (arith, last, c.requires.0.instances_ok, c.requires.1.used_ok)) (omega (arith, taken, c.requires.0.instances_ok, c.requires.1.used_ok))
          (subst (λ (q : Seats). Unseated a.case (key_of a.case x + 1) q) w.with_pin-more.ensures w.in_ok-left-2.ensures) c.loop-v.invariant
      | else-free w ↦ left_clash a.case a.from a.seats c.requires.0 x z.op z c.loop-v-test.true (c.free.ensures.no w.if-free.false) c.loop-v.invariant
    ]

pub returns-then-seats-case : goal.returns-then-seats-case
returns-then-seats-case t c =
    let a = c.args in
    let x = c.in_ok-x.x in
    let z = c.in_ok-x.ensures in
    let first : length a.seats.first ≡ most_instances = search rules in
    let last : length a.seats.last ≡ most_instances = search rules in
    let taken : length a.seats.taken ≡ most_instances = search rules in
    IfSome_then c.seat-then-seats-case.result c.seat-then-seats-case.ensures
    (λ _ u. seating_new a.case a.from a.seats c.requires.0 x z.op z c.if-seats-case.true (omega (arith, first, c.requires.0.instances_ok)) (omega (arith, last, c.requires.0.instances_ok)) (omega (arith, taken, c.requires.0.instances_ok))
    (subst (λ (q : Seats). Unseated a.case (key_of a.case x + 1) q) c.with_instance-more.ensures u)
    (subst (Left a.case a.from a.seats x) (omega (arith, c.loop-v.auto.v-end, c.loop-v-test.false)) c.loop-v.invariant))
