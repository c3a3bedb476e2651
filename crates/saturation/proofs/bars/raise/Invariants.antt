use Rattle.std.proofs.Common.{◌≡◌, ◌⊎◌, ℕ, ◌<◌}
use Rattle.laws.specs.Entry.{vec}
use Rattle.saturation.proofs.bars.raise.Given as goal

abbrev pub invariant-loop-i : goal.invariant-loop-i
invariant-loop-i l = (k : ℕ) → (vec l.bar k ≡ vec l.fn.bar k) ⊎ ((vec l.case.resource.now k ≡ l.case.kind) × (l.w < vec l.reach k) × (vec l.bar k ≡ l.w))
