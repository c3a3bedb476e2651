use Rattle.laws.specs.Entry.{vec}
use Rattle.instances.specs.SeatLaws.{seatable_from}
use Rattle.instances.proofs.seatable.Goals as goal

pub returns : goal.returns
returns c = let o = c.args.ops in let k = c.args.kind in
    rw c.is_some.ensures (seatable_from o.count (vec o.resource.now) o.interval k.limit k.busy k.number c.requires (vec o.starts.now) _ c.clash_table-clashes.ensures _ c.some_colouring.ensures)
