use Rattle.std.proofs.Common.{ℕ, List, ◌≤◌}
use Rattle.laws.specs.Entry.{vec}
use Rattle.net.specs.Walk.{Bad}
use Rattle.net.specs.Net.{web_of}
use Rattle.net.specs.StartLaws.{Stands}
use Rattle.net.proofs.settle.Given as goal

-- the starts cover every walk of at most as many edges as rounds; after the last round there is a bad closed walk
abbrev pub invariant-loop-round : goal.invariant-loop-round
invariant-loop-round l =
    let g = web_of l.fn.net in
    record {
      stands : Stands g (vec l.fn.floor) l._round l.t;
      bad : l.fn.net.ops ≤ l._round → (p : List ℕ) × Bad g p;
    }
