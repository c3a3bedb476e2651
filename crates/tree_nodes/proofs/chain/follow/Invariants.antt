-- What is left of the edges leads from where the chain stands to where the whole leads from its start.
use Rattle.tree_nodes.specs.Chain.{Reached}
use Rattle.tree_nodes.proofs.chain.follow.Given as goal

abbrev pub invariant-loop-k : goal.invariant-loop-k
invariant-loop-k l = Reached l.graph l.totals l.start l.edges l.k-index l.end l.sum
