use Rattle.std.proofs.Common.{ℕ, ◌<◌, ◌≤◌, get_or}
use Rattle.dependence.specs.Graph.{highest_latency}
use Rattle.dependence.proofs.questions.latencies_ok.Given as goal

abbrev pub invariant-loop-latency : goal.invariant-loop-latency
invariant-loop-latency l = (i : ℕ) → i < l.latency-index → get_or l.fn.graph.latency i 0 ≤ highest_latency
