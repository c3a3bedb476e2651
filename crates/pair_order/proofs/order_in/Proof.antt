-- `pair_order::order_in` meets its contract: each answer is a case of `SlotOrderAt`; the pair's number gives its
-- operations. Assumes nothing.
use mathlib.Core.Path.{refl}
use Prim.Native.Nat.{◌<◌, ◌-◌}
use native.Mathlib.Omega.{arith}
use Rattle.sizes.specs.Sizes.{most_operations}
use Rattle.sheet.specs.Sheet.{InRange}
use Rattle.sheet.specs.Questions.{at_no, at_yes}
use Rattle.plan.specs.Exactly.{accepted_given}
use Rattle.plan.specs.AfterPlan.{plan_refused, plan_given}
use Rattle.sheet.specs.Facts.{ops_least, ops_most}
use Rattle.pair_order.specs.Pairs.{pair_count, PairNumber, Pair}
use Rattle.pair_order.specs.PairLaws.{between_pair, top}
use Rattle.pair_order.specs.Answers.{refused_by}
use borrow.Author.Rules.{rules}
use Rattle.pair_order.proofs.order_in.Statement.{statement}
use Rattle.pair_order.proofs.order_in.Tie as tie

-- a plan was given, so that the sheet is in range
ranged : (c : tie.Else-plan-ne0) → InRange c.args.sheet
ranged c = (accepted_given c.requires c.if-plan-ne0.false).0.sheet

-- question 14 was answered by yes
numbered : (c : tie.Else-pairs-pair) → PairNumber c.args.sheet.op_count c.args.pair
numbered c = rw c.first_pair-pairs.ensures at c.if-pairs-pair.false

-- the pair's operations
found : (c : tie.After-later_of-j) → Pair c.args.sheet.op_count c.args.pair (c.args.pair - pair_count c.later_of-j.result) c.later_of-j.result
found c = between_pair _ _ _ (numbered c.before) c.later_of-j.ensures

-- as the code has them
formed : (c : tie.After-first_pair) → Pair c.args.sheet.op_count c.args.pair (c.args.pair - c.first_pair.result) c.later_of-j.result
formed c = rw c.first_pair.ensures (found c.before)

below : (c : tie.After-first_pair) → (c.args.pair - c.first_pair.result < most_operations) × (c.later_of-j.result < most_operations)
below c =
    let p = formed c in
    let m = ops_most (ranged c.before.before.before.before) in
    (omega (arith, p.before, p.within), omega (arith, p.within))

returns : tie.Need-returns-then-plan-ne0
returns c = plan_refused refused_by c.requires c.if-plan-ne0.true refl

first_pair_requires : tie.Need-first_pair-pairs-requires
first_pair_requires c κs = (ops_least (ranged c), ops_most (ranged c))

refusal_requires : tie.Need-refusal-requires
refusal_requires c κs = search rules

returns_2 : tie.Need-returns-then-pairs-pair
returns_2 c =
    let f = c in
    plan_given refused_by f.requires f.if-plan-ne0.false
    (at_no (λ h. omega (arith, h, f.first_pair-pairs.ensures, c.if-pairs-pair.true)) c.refusal.ensures)

later_of_requires : tie.Need-later_of-j-requires
later_of_requires c κs = omega (arith, numbered c, top _ (ops_most (ranged c.before.before)))

first_pair_requires_2 : tie.Need-first_pair-requires
first_pair_requires_2 c κs =
    let p = found c in
    let m = ops_most (ranged c.before.before.before) in
    (omega (arith, p.before), omega (arith, p.within))

sub_i : tie.Need-overflow_sub-i
sub_i c = omega (arith, c.first_pair.ensures, c.later_of-j.ensures.from)

rivals_requires : tie.Need-rivals-requires
rivals_requires c κs = search rules

refusal_requires_2 : tie.Need-refusal-requires-then-not-rivals
refusal_requires_2 c κs = search rules

returns_3 : tie.Need-returns-then-not-rivals
returns_3 c =
    let r = c in
    let e = r.before.before.before.before.before in
    plan_given refused_by e.requires e.if-plan-ne0.false
    (at_yes (numbered e)
    (record { i = _; j = _; formed = formed r.before.before.before; rivals = at_no (r.rivals.ensures.no c.if-not-rivals.true) c.refusal-then-not-rivals.ensures }))

mul_slot_of : tie.Need-offset_bounds-starts-i
mul_slot_of c = let h = below c.before.before.before in omega arith

array_read_slot_of : tie.Need-bounds-starts-i
array_read_slot_of c = (below c.before.before.before).0

slot_of_requires : tie.Need-slot_of-a-requires
slot_of_requires c κs = search rules

mul_slot_of_2 : tie.Need-offset_bounds-starts-j
mul_slot_of_2 c = let h = below c.before.before.before.before in omega arith

array_read_slot_of_2 : tie.Need-bounds-starts-j
array_read_slot_of_2 c = (below c.before.before.before.before).1

slot_of_requires_2 : tie.Need-slot_of-b-requires
slot_of_requires_2 c κs = search rules

order_of_requires : tie.Need-order_of-requires
order_of_requires c κs = search rules

returns_4 : tie.Need-returns
returns_4 c =
    let l = c in
    let r = l in
    let e = r.before.before.before.before.before.before.before.before in
    plan_given refused_by e.requires e.if-plan-ne0.false
    (at_yes (numbered e)
    (record {
      i = _;
      j = _;
      formed = formed r.before.before.before.before.before.before;
      rivals = at_yes (r.rivals.ensures.yes l.if-not-rivals.false) (record {
        order = _;
        ordered = rw (c.slot_of-a.ensures, c.slot_of-b.ensures) at c.order_of.ensures;
        pinned = refl;
      });
    }))

pub order_in_spec : {M : Type 1} → statement M
order_in_spec =
    tie.close
    (tie.spec
    returns
    first_pair_requires
    refusal_requires
    returns_2
    later_of_requires
    first_pair_requires_2
    sub_i
    rivals_requires
    refusal_requires_2
    returns_3
    mul_slot_of
    array_read_slot_of
    slot_of_requires
    mul_slot_of_2
    array_read_slot_of_2
    slot_of_requires_2
    order_of_requires
    returns_4)
