use Rattle.std.proofs.Common.{◌≡◌, length}
use Rattle.sizes.specs.Sizes.{most_operations}
use Rattle.colouring.specs.Graph.{Graph}
use Rattle.colouring.specs.Laws.{Lead}
use Rattle.colouring.proofs.greedy.Given as goal

abbrev pub invariant-loop-k : goal.invariant-loop-k
invariant-loop-k l = (length l.done ≡ most_operations) × (length l.colours ≡ most_operations) × ((g : Graph l.q.count l.q.edges.now) → Lead l.q.count l.q.edges.now l.q.limit g l.done l.colours l.k)
