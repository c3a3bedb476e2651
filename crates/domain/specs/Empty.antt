-- The empty domain, in which no operation has a start. Assumes nothing.
use Rattle.std.specs.Prelude.{◌≡◌, Bool, false, List, [], ℕ, ◌≤◌, ◌<◌, replicate}
use Rattle.std.proofs.Common.{sym, ap, ◌∙◌, arith}
use Rattle.std.proofs.lemmas.List.{get_or-replicate}
use Rattle.sizes.specs.Sizes.{most_operations, most_starts}
use Rattle.laws.specs.Z.{true_false}
use Rattle.domain.specs.Domain.{has, row_of, In, Keeps}

empty_row : (i t : ℕ) → i < most_operations → t < most_starts → has (row_of (replicate most_operations (replicate most_starts false)) i) t ≡ false
empty_row i t h k = ap (λ (q : List Bool). has q t) (get_or-replicate most_operations i (replicate most_starts false) [] h) ∙ get_or-replicate most_starts t false false k

-- a domain with no plan may be emptied
pub keeps_none : (Plan : (ℕ → ℕ) → Type 0) (n : ℕ) {ok : List (List Bool)} → n ≤ most_operations → ((t : ℕ → ℕ) → Plan t → In n ok t → ⊥) → Keeps Plan n ok (replicate most_operations (replicate most_starts false))
keeps_none Plan n small none = record {
  within = record { row = λ i l. record { part = λ t m y. true_false (sym y ∙ empty_row i t (omega arith) m) } };
  kept = λ t p q. absurd (none t p q);
}
