use Rattle.std.proofs.Common.{sym, subst}
use Rattle.dependence.specs.Graph as dependence
use Rattle.sheet.specs.Facts.{graph_in_range}
use Rattle.model.proofs.build.task_of.Goals as goal

pub joined-requires : goal.joined-requires
joined-requires c = subst dependence.InRange (sym c.requires.2) (graph_in_range c.requires.0)
