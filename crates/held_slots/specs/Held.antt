-- The slots that an operation holds (the occupancy of its instance): k of them from its start on, of l slots that come
-- round.
use Rattle.std.specs.Prelude.{◌≡◌, Bool, true, false, cond, ℕ, zero, suc, ◌+◌, ◌-◌, ◌%◌, ◌<◌, eqb, ltb}

-- the start t holds slot b: one of t to t + k − 1, each taken mod l
pub record HeldAt (l k t b : ℕ) : Type 0 where
  pub after : ℕ
  pub within : after < k
  pub there : (t + after) % l ≡ b

-- the starts t, for k slots, and t', for k' slots, hold a slot in common
pub record Meet (l k k' t t' : ℕ) : Type 0 where
  pub at : ℕ
  pub first : HeldAt l k t at
  pub second : HeldAt l k' t' at

-- the same for k slots each
abbrev pub Share : ℕ → ℕ → ℕ → ℕ → Type 0
Share l k t t' = Meet l k k t t'

-- some number below n has the flag
unfoldable pub any_below : ℕ → (ℕ → Bool) → Bool
any_below zero flag = false
any_below (suc n) flag = cond (flag n) true (any_below n flag)

-- whether the start t holds slot b, as a flag: one of the k clocks from t on falls into it
abbrev pub holds_slot : ℕ → ℕ → ℕ → ℕ → Bool
holds_slot l k t b = any_below k (λ after. eqb ((t + after) % l) b)

-- how far slot b is after slot s, of l slots
abbrev pub off : ℕ → ℕ → ℕ → ℕ
off l s b = cond (ltb b s) (b + l - s) (b - s)
