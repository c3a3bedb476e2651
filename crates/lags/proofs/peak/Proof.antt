-- `lags::peak` meets its contract, by the law of one store (`peak_law`).
-- Assumes nothing.
use borrow.Author.Rules.{rules}
use Rattle.lags.specs.Lag.{peak_law}
use Rattle.lags.proofs.peak.Statement.{statement}
use Rattle.lags.proofs.peak.Tie as tie

mul_f : tie.Need-offset_bounds-f-i
mul_f c = search rules

array_write_f : tie.Need-bounds-f-i
array_write_f c = search rules

returns : tie.Need-returns
returns c = peak_law c.args.i c.requires

pub peak_spec : {M : Type 1} → statement M
peak_spec = tie.close (tie.spec mul_f array_write_f returns)
