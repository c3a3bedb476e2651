-- Signed numbers near 0: a sum and the lesser of two stay near, and what is near fits an `i32`. Assumes nothing.
use Rattle.std.specs.Prelude.{Bool, true, false, cond, ℕ, ◌+◌, ◌^◌, ◌≤◌, ◌<◌, ℤ, pos, ◌+ℤ◌}
use Rattle.std.proofs.Common.{arith, SFits}
use Rattle.std.specs.Int.Signed.{le_z}
use Rattle.std.specs.Int.{w32}
use Rattle.laws.specs.Z.{up, dn, sum, fits_show}
use Rattle.text.specs.Sizes.{four_digits}
use Rattle.denial.specs.Box.{lesser}

-- how far a bound may be from 0: one past the greatest number of four digits
abbrev pub most_bound : ℕ
most_bound = four_digits + 1

-- z is at most b from 0
pub record Within (b : ℕ) (z : ℤ) : Type 0 where
  pub high : up z ≤ dn z + b
  pub low : dn z ≤ up z + b

pub within_zero : {b : ℕ} → Within b (pos 0)
within_zero = record { high = omega arith; low = omega arith }

pub within_more : {a b : ℕ} {z : ℤ} → a ≤ b → Within a z → Within b z
within_more h w = record { high = omega (arith, w.high); low = omega (arith, w.low) }

pub within_fits : {b : ℕ} {z : ℤ} → b < 2 ^ 31 → Within b z → SFits w32 z
within_fits h w = fits_show (omega (arith, w.high)) (omega (arith, w.low))

pub within_sum : {a b : ℕ} {y z : ℤ} → Within a y → Within b z → Within (a + b) (y +ℤ z)
within_sum {y} {z} v w = record {
  high = omega (arith, sum y z, v.high, w.high);
  low = omega (arith, sum y z, v.low, w.low);
}

pub within_lesser : {b v : ℕ} {z : ℤ} → Within b z → v ≤ b → Within b (lesser z v)
unfolding lesser
within_lesser {b} {v} {z} w h = go (le_z z (pos v))
  where
    go : (c : Bool) → Within b (cond c z (pos v))
    go true = w
    go false = record { high = omega arith; low = omega arith }
