-- What is asked for stands where an argument that is taken is given once.
use Rattle.std.proofs.Common.{◌≡◌}
use Rattle.words.specs.Requests.{counted}
use Rattle.words.specs.declared.Times.TheVariants.{Once}
use Rattle.requests.proofs.counted.Goals as goal

pub returns-in_default : goal.returns-in_default
unfolding counted
returns-in_default c = let once : c.args.times ≡ Once = c.in_default.is-1 in rw (c.in_default.is-0, once)
