use Rattle.colouring.specs.Laws.{partial_none}
use Rattle.colouring.proofs.some_colouring.Goals as goal

pub extend-requires : goal.extend-requires
extend-requires c = (c.requires, partial_none c.args.q.count_ok)
