-- `lines::none` meets its contract.
-- From the definition of the list with no line.
use mathlib.Core.Path.{refl}
use Rattle.lines.specs.Lines.{no_lines}
use Rattle.lines.proofs.none.Statement.{statement}
use Rattle.lines.proofs.none.Tie as tie

returns : tie.Need-returns
unfolding no_lines
returns c = refl

pub none_spec : {M : Type 1} → statement M
none_spec = tie.close (tie.spec returns)
