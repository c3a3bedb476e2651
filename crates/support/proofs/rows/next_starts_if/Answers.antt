use Rattle.support.specs.SupportLaws.{next_zero}
use Rattle.support.proofs.rows.next_starts_if.Goals as goal

pub returns : goal.returns
returns c = next_zero _
