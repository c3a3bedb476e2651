use Rattle.std.proofs.Common.{◌≡◌, true, false, ℕ, ◌<◌, ◌≤◌, get_or}
use Rattle.domain.proofs.kept.Given as goal

abbrev pub invariant-loop-t : goal.invariant-loop-t
invariant-loop-t g l =
    ((k : ℕ) → k < l.t → get_or l.flag-items k false ≡ true → (get_or l.fn.row k false ≡ true) × goal.F-post g l.keep k true)
    × ((k : ℕ) → k < l.t → get_or l.fn.row k false ≡ true → get_or l.flag-items k false ≡ false → goal.F-post g l.keep k false)
    × ((k : ℕ) → l.t ≤ k → get_or l.flag-items k false ≡ get_or l.fn.row k false)
