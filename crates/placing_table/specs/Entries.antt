-- Laws of a table's entries: past its end nothing is placed, and an entry is allowed by what its test finds.
-- Assumes nothing.
use Rattle.std.specs.Prelude.{◌≡◌, refl, true, false, ℕ, ◌<◌, ◌≤◌, length}
use Rattle.std.proofs.Common.{sym, subst, ◌∙◌, arith}
use Rattle.std.proofs.Math.Decide.{dec_lt}
use Rattle.std.proofs.Math.ListN.{get_or-eq_default}
use Rattle.sizes.specs.Sizes.{most_operations}
use Rattle.laws.specs.Z.{true_false}
use Rattle.sheet.specs.declared.Sheet.{Sheet}
use Rattle.plan.specs.Rules.{HoldsAllowed, InstanceAllowed}
use Rattle.placing_table.specs.declared.Placement.{Placement}
use Rattle.placing_table.specs.declared.Table.{Table}
use Rattle.placing_table.specs.Table.{nothing, placement_at, Placed, EntryAllowed}

-- ---- past the end

module _ (table : Table) (n : length table.entries ≡ most_operations) {i : ℕ} (h : most_operations ≤ i) where
  past_end : placement_at table i ≡ nothing
  past_end = get_or-eq_default table.entries nothing (omega arith)

  pub unplaced_past : Placed table i → ⊥
  unplaced_past p = true_false (sym p ∙ subst (λ (x : Placement). x.placed ≡ false) (sym past_end) refl)

-- ---- an entry

module _ {s : Sheet} {L i : ℕ} {p : Placement} where
  pub empty_allowed : p.placed ≡ false → p.start ≡ 0 → p.instance ≡ 0 → EntryAllowed s L i p
  empty_allowed f t u = record {
    within = λ e. true_false (sym e ∙ f);
    start = λ e. true_false (sym e ∙ f);
    holds = λ e. true_false (sym e ∙ f);
    instance = λ e. true_false (sym e ∙ f);
    empty = λ _. (t, u);
  }

  pub placed_allowed : p.placed ≡ true → i < s.op_count → p.start < s.horizon → HoldsAllowed s L i p.start → InstanceAllowed s i p.instance → EntryAllowed s L i p
  placed_allowed f n t h u = record { within = λ _. n; start = λ _. t; holds = λ _. h; instance = λ _. u; empty = λ e. true_false (sym f ∙ e) }

pub past_allowed : (s : Sheet) (L : ℕ) (table : Table) → length table.entries ≡ most_operations → (i : ℕ) → most_operations ≤ i → EntryAllowed s L i (placement_at table i)
past_allowed s L table n i h = subst (EntryAllowed s L i) (sym (past_end table n h)) (empty_allowed refl refl refl)

-- what holds of each entry of the table, and past its end, holds of every number
pub everywhere : (P : ℕ → Type 0) → ((i : ℕ) → i < most_operations → P i) → ((i : ℕ) → most_operations ≤ i → P i) → (i : ℕ) → P i
everywhere P below past i = at (dec_lt i most_operations)
  where
    at : Dec (i < most_operations) → P i
    at (yes h) = below i h
    at (no h) = past i (omega arith)
