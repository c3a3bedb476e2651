use Rattle.std.proofs.Common.{ℕ, ◌<◌}
use Rattle.laws.specs.Entry.{vec}
use Rattle.verify.specs.Parts.{ApartBefore}
use Rattle.verify.proofs.pairs.all_apart.Given as goal

abbrev pub invariant-loop-i : goal.invariant-loop-i
invariant-loop-i l = (x : ℕ) → x < l.i → ApartBefore l.sheet l.interval (vec l.starts) (vec l.instances) x
