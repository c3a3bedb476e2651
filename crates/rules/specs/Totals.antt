-- What callers in range use of the totals that the dependence part gives. Assumes nothing.
use Rattle.std.specs.Prelude.{List, ℕ, ◌<◌, ℤ, pos, negsuc, ◌≤ℤ◌}
use Rattle.dependence.specs.declared.Graph.{Graph}
use Rattle.dependence.specs.Graph.{InRange, Interval, total, total_ok, total_low, total_high}
use Rattle.dependence.specs.Answer.{Totals, TotalsAnswer, totals_three, totals_four, totals_found}

-- the range of a total
pub record SmallTotal (z : ℤ) : Type 0 where
  pub low : negsuc 599 ≤ℤ z
  pub high : z ≤ℤ pos 600

module _ {g : Graph} {L : ℕ} (ok : InRange g) (iv : Interval L) where
  pub totals_are : {a : ℕ} {ts : List ℤ} → TotalsAnswer g L a ts → Totals g L ts
  totals_are (totals_three _ _ n) = absurd (n ok)
  totals_are (totals_four _ _ _ n) = absurd (n iv)
  totals_are (totals_found _ _ _ t) = t

  pub total_small : {k : ℕ} → k < g.edge_count → SmallTotal (total g L k)
  total_small {k} h = let b = total_ok ok iv k h in record { low = total_low b; high = total_high b }
