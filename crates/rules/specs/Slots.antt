-- The slot at interval 0.
-- Assumes nothing.
use Rattle.std.specs.Prelude.{◌≡◌, ℕ, ◌%◌}
use Rattle.std.proofs.Common.{sym, subst}
use Rattle.std.proofs.Math.Nat.{mod-zero}

-- a remainder by 0 is the number itself
pub whole_slot : (interval start : ℕ) → interval ≡ 0 → start ≡ start % interval
whole_slot interval start e = sym (subst (λ (n : ℕ). start % n ≡ start) (sym e) (mod-zero start))
