use Rattle.std.proofs.Common.{rules}
use Rattle.instances.proofs.clash.Goals as goal

-- both are of the type, and hold a slot in common where `meet` says so
pub returns-then-ops-j : goal.returns-then-ops-j
returns-then-ops-j c = record {
  yes = λ e. record { different = search rules; first = search rules; second = search rules; share = search rules };
  no = λ e k. search rules;
}
