-- The instances of a plan, type by type: operations of one limited type that hold a slot in common have different ones,
-- all below its number of instances; and what keeps that for every type keeps the rules of a plan for its instances.
-- Assumes nothing.
use Rattle.std.specs.Prelude.{◌≡◌, ℕ, ◌<◌}
use Rattle.std.proofs.Common.{sym, subst, ◌∙◌}
use Rattle.held_slots.specs.Held.{Meet}
use Rattle.held_slots.specs.Seated.{Clash, SeatedIn}
use Rattle.sheet.specs.declared.Sheet.{Sheet}
use Rattle.sheet.specs.Sheet.{type_at, type_of, op_at}
use Rattle.plan.specs.Rules.{Plan, Rivals, Overlap}

-- the type of each operation
abbrev pub resource_of : Sheet → ℕ → ℕ
resource_of s i = (op_at s i).resource

-- the starts t and the instances u keep the rules of type r
abbrev pub SeatedAt : Sheet → ℕ → (ℕ → ℕ) → (ℕ → ℕ) → ℕ → Type 0
SeatedAt s L t u r = SeatedIn s.op_count (resource_of s) L (type_at s r).instances (type_at s r).busy r t u

module _ (s : Sheet) (L r i j : ℕ) (t : ℕ → ℕ) where
  -- two that clash in a limited type are rivals, and overlap
  clash_rivals : 0 < (type_at s r).instances → Clash (resource_of s) t L (type_at s r).busy r i j → Rivals s i j
  clash_rivals a c = record {
    different = c.different;
    one_type = c.first ∙ sym c.second;
    limited = subst (λ (x : ℕ). 0 < (type_at s x).instances) (sym c.first) a;
  }

  clash_overlap : Clash (resource_of s) t L (type_at s r).busy r i j → Overlap s L i (t i) j (t j)
  clash_overlap c =
      subst (λ (x : ℕ). Meet L (type_at s x).busy (type_of s j).busy (t i) (t j)) (sym c.first)
      (subst (λ (x : ℕ). Meet L (type_at s r).busy (type_at s x).busy (t i) (t j)) (sym c.second) c.share)

  -- and the other way round
  rivals_clash : resource_of s i ≡ r → Rivals s i j → Overlap s L i (t i) j (t j) → Clash (resource_of s) t L (type_at s r).busy r i j
  rivals_clash e v o =
      let d = sym v.one_type ∙ e in
      record {
        different = v.different;
        first = e;
        second = d;
        share = subst (λ (x : ℕ). Meet L (type_at s x).busy (type_at s r).busy (t i) (t j)) e
            (subst (λ (x : ℕ). Meet L (type_of s i).busy (type_at s x).busy (t i) (t j)) d o);
      }

-- a plan's instances keep the rules of each limited type
pub plan_seated : (s : Sheet) (L : ℕ) (t u : ℕ → ℕ) → Plan s L t u → (r : ℕ) → 0 < (type_at s r).instances → SeatedAt s L t u r
plan_seated s L t u p r a = record {
  below = λ i h e. subst (λ (x : ℕ). u i < (type_at s x).instances) e ((p.instance i h).limited (subst (λ (x : ℕ). 0 < (type_at s x).instances) (sym e) a));
  apart = λ i j h m c q. p.apart i j h m (clash_rivals s L r i j t a c) q (clash_overlap s L r i j t c);
}

-- instances that keep the rules of an operation's type are below its number, and apart from those of its rivals
module _ (s : Sheet) (L : ℕ) (t u : ℕ → ℕ) (i : ℕ) (h : i < s.op_count) (p : SeatedAt s L t u (resource_of s i)) where
  pub seated_below : u i < (type_of s i).instances
  seated_below = p.below i h (λ k. resource_of s i)

  pub seated_apart : (j : ℕ) → j < s.op_count → Rivals s i j → u i ≡ u j → Overlap s L i (t i) j (t j) → ⊥
  seated_apart j m v q o = p.apart i j h m (rivals_clash s L (resource_of s i) i j t (λ k. resource_of s i) v o) q
