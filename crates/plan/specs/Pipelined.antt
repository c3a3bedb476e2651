-- Where every K is 1 (fully pipelined units) the rules and the bound are those of before slip 6: an operation has its
-- instance in the slot of its start alone, holding asks nothing of a start, and a type's share is its operations
-- divided by its instances. Definitions first, then the laws, which assume nothing.
use Rattle.std.specs.Prelude.{◌≡◌, refl, ℕ, zero, suc, ◌+◌, ◌-◌, ◌*◌, ◌/◌, ◌<◌, ◌≤◌, max, pos}
use Rattle.std.proofs.Common.{sym, ap, subst, ◌∙◌, mul-one, div-lt_iff_lt-mul, le-div_iff_mul-le, arith}
use Rattle.std.proofs.Math.Decide.{ℕ_discrete}
use Rattle.held_slots.specs.Held.{Meet}
use Rattle.held_slots.specs.HeldLaws.{one_meet, meet_one}
use Rattle.dependence.specs.Rules.{Meets}
use Rattle.sheet.specs.declared.ResourceType.{ResourceType}
use Rattle.sheet.specs.declared.Sheet.{Sheet}
use Rattle.sheet.specs.Sheet.{InRange, type_at, type_of, op_at, graph_of}
use Rattle.plan.specs.Rules.{MayHold, InHorizon, InWindow, InstanceAllowed, Rivals, Overlap, Plan, slot}
use Rattle.plan.specs.Resource.{operations_of, slots_needed, share_of, greatest, resource_bound}
use Rattle.plan.specs.ResourceLaws.{greatest_same, share_at, share_unlimited, share_none, share_some, bound_is_greatest}

-- ---- definitions

-- every K is 1
pub record Pipelined (s : Sheet) : Type 0 where
  pub each : (r : ℕ) → r < s.type_count → (type_at s r).busy ≡ 1

-- the rules of a plan where rivals with the same instance have different slots
pub record SlotPlan (s : Sheet) (L : ℕ) (t u : ℕ → ℕ) : Type 0 where
  pub horizon : (i : ℕ) → i < s.op_count → InHorizon s.horizon (type_of s i).latency (t i)
  pub window : (i : ℕ) → i < s.op_count → InWindow (op_at s i).lo (op_at s i).hi (t i)
  pub dependence : Meets (graph_of s) L (λ i. pos (t i))
  pub instance : (i : ℕ) → i < s.op_count → InstanceAllowed s i (u i)
  pub apart : (i j : ℕ) → i < s.op_count → j < s.op_count → Rivals s i j → u i ≡ u j → slot L (t i) ≡ slot L (t j) → ⊥

-- c operations divided by a instances and rounded up; an unlimited type asks for nothing
abbrev pub slot_share : ℕ → ℕ → ℕ
slot_share c zero = 0
slot_share c (suc a) = (c + a) / suc a

-- ---- the rules

module _ {s : Sheet} (one : Pipelined s) (ok : InRange s) where
  pub busy_one : (i : ℕ) → i < s.op_count → (type_of s i).busy ≡ 1
  busy_one i h = one.each (op_at s i).resource (ok.each_op i h).resource

module _ {s : Sheet} (one : Pipelined s) (ok : InRange s) (L : ℕ) where
  -- holding asks nothing
  pub may_hold : 1 ≤ L → (i t : ℕ) → i < s.op_count → MayHold (type_of s i) L t
  may_hold h i t l = record { fits = λ _. omega (arith, busy_one one ok i l) }

  -- to overlap is to have one slot
  pub overlap_slot : (i t j t' : ℕ) → i < s.op_count → j < s.op_count → Overlap s L i t j t' → slot L t ≡ slot L t'
  overlap_slot i t j t' h k o =
      meet_one L t t' (subst (λ (x : ℕ). Meet L 1 x t t') (busy_one one ok j k) (subst (λ (x : ℕ). Meet L x (type_of s j).busy t t') (busy_one one ok i h) o))

  pub slot_overlap : (i t j t' : ℕ) → i < s.op_count → j < s.op_count → slot L t ≡ slot L t' → Overlap s L i t j t'
  slot_overlap i t j t' h k e =
      subst (λ (x : ℕ). Meet L x (type_of s j).busy t t') (sym (busy_one one ok i h)) (subst (λ (x : ℕ). Meet L 1 x t t') (sym (busy_one one ok j k)) (one_meet L t t' e))

module _ {s : Sheet} (one : Pipelined s) (ok : InRange s) {L : ℕ} {t u : ℕ → ℕ} where
  pub plan_slots : Plan s L t u → SlotPlan s L t u
  plan_slots p = record {
    horizon = λ i h. (p.start i h).in_horizon;
    window = λ i h. (p.start i h).in_window;
    dependence = p.dependence;
    instance = p.instance;
    apart = λ i j h k r e o. p.apart i j h k r e (slot_overlap one ok L i (t i) j (t j) h k o);
  }

  pub slots_plan : 1 ≤ L → SlotPlan s L t u → Plan s L t u
  slots_plan l p = record {
    start = λ i h. record { in_horizon = p.horizon i h; in_window = p.window i h; holds = may_hold one ok L l i (t i) h };
    dependence = p.dependence;
    instance = p.instance;
    apart = λ i j h k r e o. p.apart i j h k r e (overlap_slot one ok L i (t i) j (t j) h k o);
  }

-- ---- the bound

-- operations that have their instance in one slot each
share_one : (c : ℕ) (kind : ResourceType) → kind.busy ≡ 1 → share_of c kind ≡ slot_share c kind.instances
share_one c kind e = at kind.instances refl (ℕ_discrete c 0)
  where
    none : (c a : ℕ) → c ≡ 0 → slot_share c (suc a) ≡ 0
    none c a z =
        let h : (c + a) / suc a < 1 = (div-lt_iff_lt-mul {k = suc a} {x = c + a} {y = 1} (omega arith)).1 (omega arith) in
        omega arith

    some : (c a k : ℕ) → (c ≡ 0 → ⊥) → k ≡ 1 → slots_needed c (suc a) k ≡ slot_share c (suc a)
    some c a k w q =
        let x : c * 1 + suc a - 1 ≡ c + a = omega (arith, mul-one c) in
        let y : slots_needed c (suc a) k ≡ max 1 ((c + a) / suc a) = ap (slots_needed c (suc a)) q ∙ ap (λ (n : ℕ). max 1 (n / suc a)) x in
        y ∙ least ((c + a) / suc a) (positive c a w)
      where
        positive : (c a : ℕ) → (c ≡ 0 → ⊥) → 1 ≤ (c + a) / suc a
        positive c a w = (le-div_iff_mul-le {k = suc a} {x = 1} {y = c + a} (omega arith)).1 (omega arith)

        least : (n : ℕ) → 1 ≤ n → max 1 n ≡ n
        least n h = omega arith

    at : (a : ℕ) → kind.instances ≡ a → Dec (c ≡ 0) → share_of c kind ≡ slot_share c kind.instances
    at zero q d = share_unlimited c kind q ∙ ap (slot_share c) (sym q)
    at (suc a) q (yes z) = share_none c kind z ∙ sym (none c a z) ∙ ap (slot_share c) (sym q)
    at (suc a) q (no w) = share_some c kind (λ z. omega arith) w ∙ ap (λ (n : ℕ). slots_needed c n kind.busy) q ∙ some c a kind.busy w e ∙ ap (slot_share c) (sym q)

pub slot_bound : {s : Sheet} → Pipelined s → resource_bound s ≡ greatest s.type_count (λ r. slot_share (operations_of s r) (type_at s r).instances)
slot_bound {s} one = sym (bound_is_greatest s)
    ∙ greatest_same s.type_count (share_at s) (λ r. slot_share (operations_of s r) (type_at s r).instances) (λ r h. share_one (operations_of s r) (type_at s r) (one.each r h))
