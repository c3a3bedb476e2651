use Rattle.std.proofs.Common.{ℕ, ◌<◌}
use Rattle.laws.specs.Entry.{vec}
use Rattle.verify.specs.Parts.{Clash}
use Rattle.verify.proofs.pairs.apart.Given as goal

abbrev pub invariant-loop-j : goal.invariant-loop-j
invariant-loop-j l = (x : ℕ) → x < l.j → Clash l.sheet l.interval (vec l.starts) (vec l.instances) l.i x → ⊥
