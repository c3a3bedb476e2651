-- The two tests are of the entry that the field's number tells; every bound of the table fits an i32.
use Rattle.std.specs.Prelude.{◌≡◌, true, ℕ, ◌<◌, length, get_or, ℤ, pos}
use Rattle.std.proofs.Common.{arith, rules, SFits, sym, ap, ◌∙◌, to_z, of_z}
use Rattle.std.specs.Int.Signed.{le_z}
use Rattle.std.specs.Int.{w32}
use Rattle.laws.specs.Says.{Says}
use Rattle.laws.specs.Z.{zed, le_yes, le_no}
use Rattle.sheet.specs.declared.Range.{Range}
use Rattle.sheet.specs.Ranges.{ranges, range_of, Inside, row_of}
use Rattle.sheet.specs.Table.{entry, range_short, short_fits}
use Rattle.sheet.proofs.inside.Goals as goal

-- the entry as the array gives it
abbrev given : ℕ → Range
given i = get_or ranges i (record { low = pos 0; high = pos 0 })

below_high : (f i : ℕ) {z : ℤ} → i ≡ f → f < length ranges → SFits w32 z → le_z (to_z w32 (of_z w32 (given i).low)) (to_z w32 (of_z w32 z)) ≡ true
    → Says (Inside f z) (le_z (to_z w32 (of_z w32 z)) (to_z w32 (of_z w32 (given i).high)))
below_high f i e h s t =
    let r = range_short f in
    let a : given i ≡ range_of f = ap given e ∙ sym (entry f h) in
    record {
      yes = λ y. record { low = le_yes (short_fits r.low) s (rw a at t); high = le_yes s (short_fits r.high) (rw a at y) };
      no = λ n x. absurd (omega (arith, zed, le_no s (short_fits r.high) (rw a at n), x.high));
    }

pub returns-then-range-value : goal.returns-then-range-value
returns-then-range-value c =
    below_high (row_of c.args.field) _ (search rules) (search rules) c.ranges.value c.if-range-value.true
