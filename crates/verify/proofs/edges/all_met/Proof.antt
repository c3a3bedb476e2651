-- `verify::edges::all_met` meets its contract: each edge passed is met, with its total.
-- Assumes nothing.
use mathlib.Core.Path.{◌≡◌, sym, subst, ◌∙◌}
use Prim.Native.Nat.{ℕ, ◌-◌, ◌≤◌, ◌<◌}
use native.Mathlib.Omega.{arith}
use lib.IntN.{ℤ}
use mir.Syntax.{w32}
use mir.Val.{to_z, of_z}
use borrow.Author.Rules.{rules}
use borrow.Author.Count.{below_more}
use Rattle.laws.specs.Says.{Says, yes_says}
use Rattle.laws.specs.Z.{kept, fits32}
use Rattle.laws.specs.Entry.{vec, at}
use Rattle.laws.specs.Says.{no_says}
use Rattle.dependence.specs.Graph as graphs
use Rattle.rules.specs.Totals.{SmallTotal, totals_are, total_small}
use Rattle.verify.specs.Parts.{EdgeMet}
use Rattle.verify.proofs.edges.all_met.Statement.{statement}
use Rattle.verify.proofs.edges.all_met.Tie as tie

abbrev invariant_loop : tie.invariant-loop-k
invariant_loop graph interval starts n total count k₀ k =
    (k ≤ count) × ((x : ℕ) → x < k → EdgeMet graph (graphs.total graph interval x) (vec starts) n x)

abbrev decreases_loop : tie.decreases-loop-k
decreases_loop graph interval starts n total count k₀ k = count - k

-- what is read is the edge's total
total_read : (c : tie.After-edge_met-arg-1 invariant_loop decreases_loop) →
    let s = c in
    to_z w32 (of_z w32 (at c.totals-totals.result.values c.loop-k.k)) ≡ graphs.total s.args.graph s.args.interval c.loop-k.k
total_read c =
    let s = c in
    kept {z = at c.totals-totals.result.values c.loop-k.k} (fits32 c.edge_met-arg-1.given)
    ∙ (totals_are s.requires.0 s.requires.1 c.totals-totals.ensures).each c.loop-k.k c.loop-k-test.true

-- so the test is of the edge
tested : (c : tie.After-edge_met invariant_loop decreases_loop) →
    let s = c in
    let k = c.loop-k.k in
    let z = graphs.total s.args.graph s.args.interval k in
    Says (EdgeMet s.args.graph z (vec s.args.starts) s.args.n k) c.edge_met.result
tested c =
    let s = c in
    let k = c.loop-k.k in
    subst
    (λ (z : ℤ). Says (EdgeMet s.args.graph z (vec s.args.starts) s.args.n k) c.edge_met.result)
    (total_read c.before) c.edge_met.ensures

totals_requires : tie.Need-totals-totals-requires invariant_loop decreases_loop
totals_requires c κs = search rules

loop_holds : tie.Need-loop-k-init invariant_loop decreases_loop
loop_holds c = (omega arith, λ x h. absurd (omega arith))

mul_edge_met : tie.Need-offset_bounds-total-k invariant_loop decreases_loop
mul_edge_met c = search rules

array_copy_out_edge_met : tie.Need-bounds-total-k invariant_loop decreases_loop
array_copy_out_edge_met c = search rules

edge_met_requires : tie.Need-edge_met-requires invariant_loop decreases_loop
edge_met_requires c κs =
    let p = c.requires in
    let h = c.loop-k-test.true in
    (p.0, p.2, h, subst SmallTotal (sym (total_read c)) (total_small p.0 p.1 h))

returns : tie.Need-returns-then-not-edge_met invariant_loop decreases_loop
returns c = no_says (λ all. (tested c.before).no c.if-not-edge_met.true (all c.loop-k.k c.loop-k-test.true))

add_k : tie.Need-overflow_step-k invariant_loop decreases_loop
add_k c = search rules

loop_less : tie.Need-loop-k-smaller invariant_loop decreases_loop
loop_less c = omega arith

loop_again : tie.Need-loop-k-preserved invariant_loop decreases_loop
loop_again c = (
  omega (arith, c.loop-k-test.true),
  below_more _ _ c.loop-k.invariant.1 ((tested c.before).yes c.if-not-edge_met.false),
)

returns_2 : tie.Need-returns invariant_loop decreases_loop
returns_2 c = yes_says (λ x h. c.loop-k.invariant.1 x (omega (arith, c.loop-k-test.false)))

pub all_met_spec : {M : Type 1} → statement M
all_met_spec =
    tie.close
    (tie.spec
    invariant_loop
    decreases_loop
    totals_requires
    loop_holds
    mul_edge_met
    array_copy_out_edge_met
    edge_met_requires
    returns
    add_k
    loop_less
    loop_again
    returns_2)
