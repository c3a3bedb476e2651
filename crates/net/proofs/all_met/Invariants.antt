use Rattle.std.proofs.Common.{ℕ, ◌<◌, pos, ◌+ℤ◌, ◌≤ℤ◌}
use Rattle.laws.specs.Entry.{vec}
use Rattle.net.specs.Net.{web_of}
use Rattle.net.proofs.all_met.Given as goal

-- the edges so far are met
abbrev pub invariant-loop-arc : goal.invariant-loop-arc
invariant-loop-arc l =
    let g = web_of l.fn.net in
    (k : ℕ) → k < l.arc-index → (pos (vec l.t (g.from k)) +ℤ g.weight k) ≤ℤ pos (vec l.t (g.to k))
