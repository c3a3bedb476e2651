use Rattle.placing.specs.Asking.{new_asked}
use Rattle.placing.proofs.new_table.Goals as goal

pub returns-in-Err : goal.returns-in-Err
returns-in-Err c = rw c.number.ensures (new_asked c.in-Err.ensures)

pub returns : goal.returns
returns c = new_asked c.in_default.ensures
