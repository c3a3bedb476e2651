use Rattle.instances.specs.SeatLaws.{with_merge}
use Rattle.instances.proofs.with_type.Goals as goal

pub returns : goal.returns
returns c = with_merge _ _ _ c.if-kind-eq0.false c.type_instances.ensures c.merge.ensures
