use Rattle.std.proofs.Common.{◌<◌, ltb-true, rules, arith}
use Rattle.laws.specs.Entry.{vec}
use Rattle.task.proofs.overfull.Goals as goal

pub returns-then-limit-gt0 : goal.returns-then-limit-gt0
returns-then-limit-gt0 c = record { yes = λ e. record { type_in = omega arith; limited = omega arith; over = search rules }; no = λ e o. search rules }

-- a type with 0 instances is never over
pub returns-else-limit-gt0 : goal.returns-else-limit-gt0
returns-else-limit-gt0 c =
    let limit = vec c.args.p.now.instances (vec c.args.p.now.resource c.args.i) in
    record {
      yes = λ e. let some : 0 < limit = ltb-true _ _ e in absurd (omega (arith, some, c.if-limit-gt0.false));
      no = λ e o. omega (arith, c.if-limit-gt0.false, o.limited);
    }
