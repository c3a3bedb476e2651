-- `command_lines::services::start_lines` meets its contract. The invariant: the lines so far, one for each operation passed.
-- From what `headed`, `count_line` and `with` ensure.
use Prim.Native.Nat.{ℕ, ◌-◌, ◌≤◌}
use mathlib.Core.Path.{◌≡◌, subst}
use mathlib.Core.List.{◌∷◌}
use lib.ListN.{length}
use Rattle.text.specs.declared.Key.TheVariants as keys
use Rattle.laws.specs.Entry.{vec}
use Rattle.laws.specs.Each.{each}
use Rattle.text.specs.Sizes.{most_values}
use Rattle.text.specs.Answers.{answer_line, interval_line}
use Rattle.command_lines.specs.Listing.{start_line}
use Rattle.command_lines.specs.Shows.{Shows, each_added, one}
use native.Mathlib.Omega.{arith}
use borrow.Author.Rules.{rules}
use Rattle.command_lines.proofs.services.start_lines.Statement.{statement}
use Rattle.command_lines.proofs.services.start_lines.Tie as tie

abbrev invariant_loop : tie.invariant-loop-i
invariant_loop ops interval starts ls₀ i₀ ls i = (i ≤ ops) × Shows ls (answer_line 0 ∷ interval_line interval ∷ each i (λ k. start_line (vec starts k)))

abbrev decreases_loop : tie.decreases-loop-i
decreases_loop ops interval starts ls₀ i₀ ls i = ops - i

headed_requires : tie.Need-headed-ls-requires invariant_loop decreases_loop
headed_requires c κs = (omega arith, c.requires.1)

loop_holds : tie.Need-loop-i-init invariant_loop decreases_loop
unfolding each
loop_holds c = (omega arith, c.headed-ls.ensures)

mul_count_line : tie.Need-offset_bounds-starts-i invariant_loop decreases_loop
mul_count_line c = let h = c.requires.0 in omega arith

array_read_count_line : tie.Need-bounds-starts-i invariant_loop decreases_loop
array_read_count_line c = let h = c.requires.0 in omega arith

count_line_requires : tie.Need-count_line-requires invariant_loop decreases_loop
count_line_requires c κs = search rules

with_requires : tie.Need-with-ls-requires invariant_loop decreases_loop
with_requires c κs = search rules

add_i : tie.Need-overflow_step-i invariant_loop decreases_loop
add_i c = let h = c.requires.0 in omega arith

loop_less : tie.Need-loop-i-smaller invariant_loop decreases_loop
loop_less c = omega arith

loop_again : tie.Need-loop-i-preserved invariant_loop decreases_loop
loop_again c =
    let l = c.count_line in
    let t = c.loop-i in
    let s = c in
    let h = s.requires.0 in
    let w : length l.result.values ≡ most_values = search rules in (
      omega arith,
      each_added (λ k. start_line (vec s.args.starts k)) t.invariant.1 (omega (arith, c.loop-i-test.true)) l.result w
          (one keys.Start (vec s.args.starts t.i) l.result (s.requires.2 t.i) l.ensures) c.with-ls.ensures,
    )

returns : tie.Need-returns invariant_loop decreases_loop
returns c =
    let l = c.loop-i in
    let a = c.args in
    subst (λ (n : ℕ). Shows l.ls (answer_line 0 ∷ interval_line a.interval ∷ each n (λ k. start_line (vec a.starts k)))) (omega (arith, l.invariant.0, c.loop-i-test.false)) l.invariant.1

pub start_lines_spec : {M : Type 1} → statement M
start_lines_spec =
    tie.close
    (tie.spec
    invariant_loop
    decreases_loop
    headed_requires
    loop_holds
    mul_count_line
    array_read_count_line
    count_line_requires
    with_requires
    add_i
    loop_less
    loop_again
    returns)
