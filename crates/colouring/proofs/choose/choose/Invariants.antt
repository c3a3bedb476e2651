use Rattle.std.proofs.Common.{◌≡◌, true, false, ℕ, ◌<◌, MatchOption}
use Rattle.domain.specs.Domain.{has}
use Rattle.colouring.proofs.choose.choose.Given as goal

abbrev pub invariant-loop-node : goal.invariant-loop-node
invariant-loop-node l = MatchOption l.at ((i : ℕ) → i < l.node → has l.done i ≡ true) (λ i. (i < l.q.count) × (has l.done i ≡ false))
