use Rattle.std.proofs.Common.{◌≡◌, length}
use Rattle.sizes.specs.Sizes.{most_operations}
use Rattle.laws.specs.Entry.{vec}
use Rattle.colouring.specs.Graph.{Graph, Extends}
use Rattle.colouring.specs.Laws.{Lead}
use Rattle.colouring.proofs.from_colouring.Given as goal

abbrev pub invariant-loop-k : goal.invariant-loop-k
invariant-loop-k l =
    (length l.done ≡ most_operations)
    × (length l.colours ≡ most_operations)
    × ((g : Graph l.q.count l.q.edges.now) → Lead l.q.count l.q.edges.now l.q.limit g l.done l.colours l.k)
    × Extends l.q.count l.q.edges.now l.q.limit l.done l.colours (vec l.best)
