-- `page_writer::put_slots` meets its contract.
-- From what `users_in` and `put_slot_line` ensure. The invariant: the lines of the slots before this one are written,
-- up to the place reached.
use Prim.Native.Nat.{ℕ, ◌-◌, ◌≤◌}
use native.Mathlib.Omega.{arith}
use mathlib.Core.Path.{◌≡◌, sym, ap}
use Rattle.laws.specs.Entry.{vec}
use Rattle.sheet.specs.Facts.{ops_most}
use Rattle.page_text.specs.Columns.{up_to}
use Rattle.page_text.specs.Page.{slot_line, user_of}
use Rattle.text.specs.Pasting.{Pasted, pasted_none, pasted_as, pasted_then}
use Rattle.page_text.specs.Joining.{up_none, up_more}
use Rattle.page_text.specs.Widths.{few_slots, users_few, slot_same, slots_long}
use borrow.Author.Rules.{rules}
use Rattle.page_writer.proofs.put_slots.Statement.{statement}
use Rattle.page_writer.proofs.put_slots.Tie as tie

abbrev invariant_loop : tie.invariant-loop-slot
invariant_loop out₀ at sheet interval table r limit place₀ slot₀ out place slot =
    (slot ≤ interval) × Pasted at (up_to slot (λ x. slot_line limit (user_of sheet interval table r x) x)) out₀ out place

abbrev decreases_loop : tie.decreases-loop-slot
decreases_loop out₀ at sheet interval table r limit place₀ slot₀ out place slot = interval - slot

loop_holds : tie.Need-loop-slot-init invariant_loop decreases_loop
loop_holds c =
    let s = c in
    let a = s.args in
    let h = s.requires.2 in
    (omega arith, pasted_as (sym (up_none _)) (pasted_none a.out.now a.at (omega arith)))

users_in_requires : tie.Need-users_in-users-requires invariant_loop decreases_loop
users_in_requires c κs =
    let p = c.requires in (ops_most p.0.sheet, p.1, omega (arith, c.loop-slot-test.true))

put_slot_line_requires : tie.Need-put_slot_line-place-requires invariant_loop decreases_loop
put_slot_line_requires c κs =
    let s = c in
    let a = s.args in
    let l = c.loop-slot in
    let t = c.loop-slot-test.true in
    let p = l.invariant.1 in
    let m = few_slots s.requires.0 in
    let f = users_few s.requires.0 a.table a.r in
    let n = slots_long a.limit (user_of a.sheet a.interval a.table a.r) f l.slot (omega arith) in
    let u = c.users_in-users.ensures in
    let h = s.requires.2 in
    (omega arith, (λ x q. let e = u.each x q in omega (arith, f l.slot x q)), omega (arith, p.ends, p.size))

add_slot : tie.Need-overflow_step-slot invariant_loop decreases_loop
add_slot c = search rules

loop_less : tie.Need-loop-slot-smaller invariant_loop decreases_loop
loop_less c = search rules

loop_again : tie.Need-loop-slot-preserved invariant_loop decreases_loop
loop_again c =
    let s = c in
    let a = s.args in
    let l = c.loop-slot in
    let t = c.loop-slot-test.true in
    let h = s.requires.2 in
    let u = c.users_in-users in
    let e = slot_same a.limit (vec u.result.of) (user_of a.sheet a.interval a.table a.r l.slot) l.slot u.ensures.each in
    (omega arith, pasted_as (sym (up_more l.slot (λ x. slot_line a.limit (user_of a.sheet a.interval a.table a.r x) x))) (pasted_then (omega arith) l.invariant.1 (pasted_as e c.put_slot_line-place.ensures)))

same_length : tie.Need-shape_of-out invariant_loop decreases_loop
same_length c = c.loop-slot.invariant.1.size

returns : tie.Need-returns invariant_loop decreases_loop
returns c =
    let a = c.args in
    let l = c.loop-slot in
    let e : l.slot ≡ a.interval = omega (arith, l.invariant.0, c.loop-slot-test.false) in
    pasted_as (ap (λ (n : ℕ). up_to n (λ x. slot_line a.limit (user_of a.sheet a.interval a.table a.r x) x)) e) l.invariant.1

pub put_slots_spec : {M : Type 1} → statement M
put_slots_spec =
    tie.close
    (tie.spec
    invariant_loop
    decreases_loop
    loop_holds
    users_in_requires
    put_slot_line_requires
    add_slot
    loop_less
    loop_again
    same_length
    returns)
