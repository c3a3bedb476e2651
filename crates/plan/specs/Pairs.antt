-- Rivals are rivals both ways, and so is an overlap; whether there is one is decided. Assumes nothing.
use Rattle.std.specs.Prelude.{Bool, true, ◌⊎◌, ◌≡◌, refl, ℕ, ◌+◌, ◌%◌, ◌<◌}
use Rattle.std.proofs.Common.{inl, inr, sym, subst, ◌∙◌}
use Rattle.laws.specs.Pigeon.{find}
use Rattle.laws.specs.Tests.{by_test}
use Rattle.laws.specs.Z.{true_false}
use Rattle.held_slots.specs.Held.{HeldAt, Meet, holds_slot}
use Rattle.held_slots.specs.HeldLaws.{meet_back, slot_held, held_slot}
use Rattle.sheet.specs.declared.Sheet.{Sheet}
use Rattle.sheet.specs.Sheet.{type_at, type_of}
use Rattle.plan.specs.Rules.{Rivals, Overlap}

pub rivals_back : {s : Sheet} {i j : ℕ} → Rivals s i j → Rivals s j i
rivals_back {s} r = record {
  different = λ e. r.different (sym e);
  one_type = sym r.one_type;
  limited = subst (λ (k : ℕ). 0 < (type_at s k).instances) r.one_type r.limited;
}

pub overlap_back : (s : Sheet) (L i t j t' : ℕ) → Overlap s L i t j t' → Overlap s L j t' i t
overlap_back s L i t j t' o = meet_back o

flag_decided : (b : Bool) → Dec (b ≡ true)
flag_decided b = by_test b (λ e. yes e) (λ e. no (λ t. true_false (sym t ∙ e)))

-- one of the k clocks from t on falls into a slot that t' holds, or none does
meet_decided : (L k k' t t' : ℕ) → Dec (Meet L k k' t t')
meet_decided L k k' t t' =
    pick (find (λ x. holds_slot L k' t' ((t + x) % L) ≡ true) (λ x. flag_decided (holds_slot L k' t' ((t + x) % L))) k)
  where
    pick : ((x : ℕ) × (x < k) × (holds_slot L k' t' ((t + x) % L) ≡ true))
        ⊎ ((x : ℕ) → x < k → ¬ (holds_slot L k' t' ((t + x) % L) ≡ true)) → Dec (Meet L k k' t t')
    pick (inl w) = yes (record {
      at = (t + w.0) % L;
      first = record { after = w.0; within = w.1; there = refl };
      second = slot_held L k' t' ((t + w.0) % L) w.2;
    })
    pick (inr n) = no (λ m. n m.first.after m.first.within (falls m))
      where
        falls : (m : Meet L k k' t t') → holds_slot L k' t' ((t + m.first.after) % L) ≡ true
        falls m = held_slot L k' t' _ (subst (HeldAt L k' t') (sym m.first.there) m.second)

pub overlap_decided : (s : Sheet) (L i t j t' : ℕ) → Dec (Overlap s L i t j t')
overlap_decided s L i t j t' = meet_decided L (type_of s i).busy (type_of s j).busy t t'
