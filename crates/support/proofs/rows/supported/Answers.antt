use Rattle.std.proofs.Common.{arith}
use Rattle.support.proofs.rows.supported.Goals as goal

-- where the lag back asks something, a start that some start supports is below the other row's end and that lag
pub returns : goal.returns
returns c = record {
  by = λ q k. record {
    was = c.below.ensures.was;
    stays = λ x t hx ht y z f g. c.below.ensures.low t ht (omega (arith, c.saturating_sub-2.ensures, k.upto x hx y, g)) z;
  };
}
