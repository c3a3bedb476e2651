-- `page_text::users::users_in` meets its contract.
-- From what `reserves` and `with_user` ensure. The invariant: the users among the operations before i.
use Prim.Native.Nat.{ℕ, ◌+◌, ◌-◌, ◌≤◌}
use native.Mathlib.Omega.{arith}
use mathlib.Core.Path.{◌≡◌, sym, ap, subst, ◌∙◌}
use mathlib.Core.Bool.{Bool}
use mathlib.Core.List.{List}
use lib.ListN.{get_or}
use Rattle.sheet.specs.declared.Operation.{Operation}
use Rattle.sheet.specs.Sheet.{no_operation, type_at}
use Rattle.placing_table.specs.declared.Placement.{Placement}
use Rattle.placing_table.specs.Table.{nothing}
use Rattle.page_text.specs.Page.{reserves}
use Rattle.page_text.specs.Users.{UsersOf, with_user, found, users_none, users_more}
use borrow.Author.Rules.{rules}
use Rattle.page_text.proofs.users.users_in.Statement.{statement}
use Rattle.page_text.proofs.users.users_in.Tie as tie

-- the users among the first n operations
abbrev found_in : ℕ → ℕ → ℕ → ℕ → List Operation → List Placement → ℕ → ℕ → ℕ
found_in interval busy r slot ops entries n =
    found (λ k. reserves interval busy (get_or ops k no_operation).resource (get_or entries k nothing) r slot) (λ k. (get_or entries k nothing).instance) n

abbrev invariant_loop : tie.invariant-loop-i
invariant_loop interval r slot busy count ops entries found₀ i₀ found i = (i ≤ count) × UsersOf (found_in interval busy r slot ops entries i) found.of

abbrev decreases_loop : tie.decreases-loop-i
decreases_loop interval r slot busy count ops entries found₀ i₀ found i = count - i

mul_kind : tie.Need-offset_bounds-sheet-r invariant_loop decreases_loop
mul_kind c = search rules

element_copy_out_kind : tie.Need-bounds-sheet-r invariant_loop decreases_loop
element_copy_out_kind c = search rules

loop_holds : tie.Need-loop-i-init invariant_loop decreases_loop
loop_holds c =
    let a = c.args in (
      omega arith,
      users_none (λ k. reserves a.interval (type_at a.sheet a.r).busy (get_or a.sheet.ops k no_operation).resource (get_or a.table.entries k nothing) a.r a.slot) (λ k. (get_or a.table.entries k nothing).instance),
    )

mul_op : tie.Need-offset_bounds-ops-i invariant_loop decreases_loop
mul_op c = search rules

array_copy_out_op : tie.Need-bounds-ops-i invariant_loop decreases_loop
array_copy_out_op c = search rules

mul_p : tie.Need-offset_bounds-entries-i invariant_loop decreases_loop
mul_p c = search rules

array_copy_out_p : tie.Need-bounds-entries-i invariant_loop decreases_loop
array_copy_out_p c = search rules

reserves_requires : tie.Need-reserves-is_there-requires invariant_loop decreases_loop
reserves_requires c κs = search rules

with_user_requires : tie.Need-with_user-found-requires invariant_loop decreases_loop
with_user_requires c κs = search rules

add_i : tie.Need-overflow_step-i invariant_loop decreases_loop
add_i c = search rules

loop_less : tie.Need-loop-i-smaller invariant_loop decreases_loop
loop_less c = search rules

loop_again : tie.Need-loop-i-preserved invariant_loop decreases_loop
loop_again c =
    let s = c in
    let l = c.loop-i in
    let t = c.loop-i-test.true in
    let a = s.args in
    let there : ℕ → Bool = λ k. reserves a.interval (type_at a.sheet a.r).busy (get_or a.sheet.ops k no_operation).resource (get_or a.table.entries k nothing) a.r a.slot in
    let instance : ℕ → ℕ = λ k. (get_or a.table.entries k nothing).instance in
    let e : c.with_user-found.result.of ≡ with_user l.found.of (there l.i) (instance l.i) l.i =
    c.with_user-found.ensures ∙ ap (λ (b : Bool). with_user l.found.of b (instance l.i) l.i) {y = there l.i} c.reserves-is_there.ensures in
    (omega arith, subst (UsersOf (found there instance (l.i + 1))) (sym e) (users_more there instance l.i l.found.of l.invariant.1))

returns : tie.Need-returns invariant_loop decreases_loop
returns c =
    let s = c in
    let l = c.loop-i in
    let e : l.i ≡ s.args.sheet.op_count = omega (arith, l.invariant.0, c.loop-i-test.false) in
    let a = s.args in
    subst (λ (n : ℕ). UsersOf (found_in a.interval (type_at a.sheet a.r).busy a.r a.slot a.sheet.ops a.table.entries n) l.found.of) e l.invariant.1

pub users_in_spec : {M : Type 1} → statement M
users_in_spec =
    tie.close
    (tie.spec
    invariant_loop
    decreases_loop
    mul_kind
    element_copy_out_kind
    loop_holds
    mul_op
    array_copy_out_op
    mul_p
    array_copy_out_p
    reserves_requires
    with_user_requires
    add_i
    loop_less
    loop_again
    returns)
