-- `judge::unreadable` meets its contract. Assumes nothing.
use mathlib.Core.Path.{refl}
use Rattle.judge.proofs.unreadable.Statement.{statement}
use Rattle.judge.proofs.unreadable.Tie as tie

returns : tie.Need-returns
returns c = refl

pub unreadable_spec : {M : Type 1} → statement M
unreadable_spec = tie.close (tie.spec returns)
