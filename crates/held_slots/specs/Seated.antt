-- Instances for the operations of one type, of n operations with the types ty and the starts t: those that hold a slot
-- in common have different ones.
use Rattle.std.specs.Prelude.{◌≡◌, Bool, false, cond, ◌≢◌, ℕ, ◌%◌, ◌<◌, eqb, ltb}
use Rattle.held_slots.specs.Held.{Share, off}

-- the operations i and j are two of type r, and hold a slot in common
pub record Clash (ty t : ℕ → ℕ) (l k r i j : ℕ) : Type 0 where
  pub different : i ≢ j
  pub first : ty i ≡ r
  pub second : ty j ≡ r
  pub share : Share l k (t i) (t j)

-- the starts t and the instances u keep the rules of type r, which has a instances that stay busy for k slots
pub record SeatedIn (n : ℕ) (ty : ℕ → ℕ) (l a k r : ℕ) (t u : ℕ → ℕ) : Type 0 where
  pub below : (i : ℕ) → i < n → ty i ≡ r → u i < a
  pub apart : (i j : ℕ) → i < n → j < n → Clash ty t l k r i j → u i ≡ u j → ⊥

-- whether operation i is of type r, on instance v
abbrev pub on_instance : (ℕ → ℕ) → (ℕ → ℕ) → ℕ → ℕ → ℕ → Bool
on_instance ty u r v i = cond (eqb (ty i) r) (eqb (u i) v) false

-- whether operation i is of type r, and its slot less than w after s
abbrev pub near_w : (ℕ → ℕ) → (ℕ → ℕ) → ℕ → ℕ → ℕ → ℕ → ℕ → Bool
near_w ty t l r s w i = cond (eqb (ty i) r) (ltb (off l s (t i % l)) w) false
