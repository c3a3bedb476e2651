-- The code is the formula, and its product is small.
use Rattle.std.proofs.Common.{refl, arith}
use Rattle.pair_order.specs.PairLaws.{product_fits}
use Rattle.pair_order.proofs.first_pair.Goals as goal

pub overflow_mul-result : goal.overflow_mul-result
overflow_mul-result c = product_fits (omega (arith, c.requires.1)) (omega (arith, c.requires.1))

pub returns : goal.returns
returns c = refl
