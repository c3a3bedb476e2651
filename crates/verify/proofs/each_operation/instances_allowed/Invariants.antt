use Rattle.std.proofs.Common.{ℕ, ◌<◌}
use Rattle.laws.specs.Entry.{vec}
use Rattle.plan.specs.Rules.{InstanceAllowed}
use Rattle.verify.proofs.each_operation.instances_allowed.Given as goal

abbrev pub invariant-loop-i : goal.invariant-loop-i
invariant-loop-i l = (x : ℕ) → x < l.i → InstanceAllowed l.sheet x (vec l.instances x)
