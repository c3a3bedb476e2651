use Rattle.std.proofs.Common.{ℕ, ◌<◌, false, get_or}
use Rattle.laws.specs.Says.{Says}
use Rattle.plan.specs.Rules.{MayStart}
use Rattle.start_rules.proofs.allowed_starts.Given as goal

abbrev pub invariant-loop-t : goal.invariant-loop-t
invariant-loop-t l = (k : ℕ) → k < l.t → Says (MayStart l.sheet.horizon l.kind l.operation l.interval k) (get_or l.allowed-items k false)
