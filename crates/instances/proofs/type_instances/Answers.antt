use Rattle.laws.specs.Entry.{vec}
use Rattle.instances.specs.SeatLaws.{seats_from}
use Rattle.instances.proofs.type_instances.Goals as goal

pub returns : goal.returns
returns c = let o = c.args.ops in let k = c.args.kind in
    rw c.unwrap_or.ensures (seats_from o.count (vec o.resource.now) o.interval k.limit k.busy k.number c.requires (vec o.starts.now) _ c.clash_table-clashes.ensures _ _ c.first_colouring.ensures)
