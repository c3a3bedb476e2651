-- `sheet_graph::latencies` meets its contract. The invariant: each entry below i is the latency of its operation's type.
-- Assumes nothing.
use borrow.Author.Rules.{rules}
use Prim.Native.Nat.{ℕ, ◌≤◌, ◌<◌, ◌-◌}
use mathlib.Core.Path.{◌≡◌, refl, ◌∙◌, sym}
use native.Mathlib.Omega.{arith}
use lib.ListN.{get_or, length, length-set, length-map}
use lib.Seq.{ext_get_or}
use mathlib.Core.List.{map}
use Rattle.sheet.specs.declared.Operation.{Operation}
use Rattle.sheet.specs.Facts.{map_at}
use Rattle.laws.specs.Store.{store_more}
use Rattle.sheet.specs.Sheet.{no_operation, no_type}
use Rattle.sheet_graph.proofs.latencies.Statement.{statement}
use Rattle.sheet_graph.proofs.latencies.Tie as tie

abbrev invariant_loop : tie.invariant-loop-i
invariant_loop types ops out₀ i₀ out i = (i ≤ 24) × (length out ≡ 24) × ((x : ℕ) → x < i → get_or out x 0 ≡ (get_or types (get_or ops x no_operation).resource no_type).latency)

abbrev decreases_loop : tie.decreases-loop-i
decreases_loop types ops out₀ i₀ out i = 24 - i

loop_holds : tie.Need-loop-i-init invariant_loop decreases_loop
loop_holds c = (omega arith, refl, λ x h. absurd (omega arith))

mul_op : tie.Need-offset_bounds-ops-i invariant_loop decreases_loop
mul_op c = search rules

array_copy_out_op : tie.Need-bounds-ops-i invariant_loop decreases_loop
array_copy_out_op c = search rules

latency_of_requires : tie.Need-latency_of-requires invariant_loop decreases_loop
latency_of_requires c κs = search rules

mul_out : tie.Need-offset_bounds-out-i invariant_loop decreases_loop
mul_out c = search rules

array_write_out : tie.Need-bounds-out-i invariant_loop decreases_loop
array_write_out c = search rules

add_i : tie.Need-overflow_add-i invariant_loop decreases_loop
add_i c = search rules

loop_less : tie.Need-loop-i-smaller invariant_loop decreases_loop
loop_less c = search rules

loop_again : tie.Need-loop-i-preserved invariant_loop decreases_loop
loop_again c =
    let l = c.loop-i in
    let a = c.args in (
      omega (arith, c.loop-i-test.true),
      simp length-set l.invariant.1,
      store_more (λ k z. z ≡ (get_or a.types (get_or a.ops k no_operation).resource no_type).latency) l.out l.i _ 0 (omega (arith, l.invariant.1)) c.latency_of.ensures l.invariant.2,
    )

returns : tie.Need-returns invariant_loop decreases_loop
returns c =
    let l = c.loop-i in
    let a = c.args in
    let f : Operation → ℕ = λ (o : Operation). (get_or a.types o.resource no_type).latency in
    let n : length a.ops ≡ 24 = search rules in
    ext_get_or 0 l.out (map f a.ops) (l.invariant.1 ∙ sym n ∙ sym (length-map a.ops f))
    (λ i h. l.invariant.2 i (omega (arith, c.loop-i-test.false, l.invariant.1)) ∙ sym (map_at f no_operation a.ops i (omega (arith, l.invariant.1))))

pub latencies_spec : {M : Type 1} → statement M
latencies_spec =
    tie.close
    (tie.spec
    invariant_loop
    decreases_loop
    loop_holds
    mul_op
    array_copy_out_op
    latency_of_requires
    mul_out
    array_write_out
    add_i
    loop_less
    loop_again
    returns)
