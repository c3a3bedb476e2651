-- The floor of each operation's start, as an array: the first clock of its window. And a law: over windows that begin
-- at 0 the earliest starts are those of 01. Assumes nothing.
use Rattle.std.specs.Prelude.{◌≡◌, List, ℕ, ◌<◌, get_or}
use Rattle.std.proofs.Common.{arith}
use Rattle.laws.specs.Entry.{vec}
use Rattle.dependence.specs.Rules.{Earliest}
use Rattle.sheet.specs.declared.Sheet.{Sheet}
use Rattle.sheet.specs.declared.Operation.{Operation}
use Rattle.sheet.specs.Sheet.{no_operation, op_at, graph_of}

-- each entry is the lo of its operation; past the array both are 0
pub record Floors (ops : List Operation) (floor : List ℕ) : Type 0 where
  pub each : (i : ℕ) → vec floor i ≡ (get_or ops i no_operation).lo

pub earliest_from_0 : (s : Sheet) {L : ℕ} {t : ℕ → ℕ} → ((i : ℕ) → i < s.op_count → (op_at s i).lo ≡ 0)
    → Earliest (graph_of s) L (λ i. (op_at s i).lo) t → Earliest (graph_of s) L (λ i. 0) t
earliest_from_0 s z e = record {
  above = λ i h. omega arith;
  meets = e.meets;
  least = λ r o m i h. e.least r (λ j k. omega (arith, z j k)) m i h;
}
