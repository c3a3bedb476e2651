use Rattle.net.specs.Net.{web_of}
use Rattle.walks.specs.Table.{Is}
use Rattle.walks.proofs.table.reach.Given as goal

-- the walks of at most as many edges as rounds
abbrev pub invariant-loop-edge : goal.invariant-loop-edge
invariant-loop-edge l = Is (web_of l.fn.net) l._edge l.w
