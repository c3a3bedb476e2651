-- A comma ends a number where others follow it.
use Rattle.scan.proofs.Fields.{comma_ends}
use Rattle.scan.proofs.ends_number.Goals as goal

pub returns-in-Comma : goal.returns-in-Comma
returns-in-Comma c = comma_ends c.args.b c.args.more c.in-Comma.ensures
