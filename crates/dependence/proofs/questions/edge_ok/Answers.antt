use Rattle.std.proofs.Common.{rules}
use Rattle.dependence.proofs.questions.edge_ok.Goals as goal

-- the last test of five
pub returns-then-edge-le-HIGHEST_DELAY : goal.returns-then-edge-le-HIGHEST_DELAY
returns-then-edge-le-HIGHEST_DELAY c = search rules
