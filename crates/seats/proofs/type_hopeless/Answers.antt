-- A plan in the domain has the pins, and instances in the type.
use Rattle.std.proofs.lemmas.Option.{IfSome_then}
use Rattle.seats.specs.SeatingLaws.{hopeless_show, hopeless_some}
use Rattle.seats.proofs.type_hopeless.Goals as goal

pub returns : goal.returns
returns c = rw c.is_some.ensures (hopeless_some c.args.p c.seat.result (IfSome_then c.seat.result c.seat.ensures
    (λ _ u. hopeless_show c.args.p c.args.kind c.requires.1 c.requires.2 c.pins-pin.ensures c.count_of-total.ensures.0 u)))
