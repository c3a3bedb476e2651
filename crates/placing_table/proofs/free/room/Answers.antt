use Rattle.placing_table.specs.Vacancies.{room_most}
use Rattle.placing_table.proofs.free.room.Goals as goal

pub returns : goal.returns
returns c = room_most c.instances_of.ensures c.max.ensures
