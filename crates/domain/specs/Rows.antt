-- Laws of the row functions.
use Rattle.std.specs.Prelude.{◌≡◌, Bool, true, false, ◌≢◌, List, ℕ, ◌≤◌, ◌<◌, ◌+◌, ◌-◌, ◌%◌, set, length, replicate}
use Rattle.std.proofs.Common.{sym, ◌∙◌, ap, arith, mod-eq_of_lt, get_or-set_same, get_or-set_other}
use Rattle.std.proofs.lemmas.List.{get_or-replicate, length-replicate}
use Rattle.std.proofs.Math.Nat.{mod-add-mod, mod_self}
use Rattle.std.proofs.Math.Decide.{ℕ_discrete}
use Rattle.sizes.specs.Sizes.{most_starts}
use Rattle.laws.specs.Z.{true_false}
use Rattle.domain.specs.Domain.{has, Only, NextClass}

-- numbers that do not differ are the same
pub same_class : (a b : ℕ) → (a ≢ b → ⊥) → a ≡ b
same_class a b h = pick (ℕ_discrete a b)
  where
    pick : Dec (a ≡ b) → a ≡ b
    pick (yes e) = e
    pick (no n) = absurd (h n)

only_set : (l : List Bool) (x : ℕ) → ((k : ℕ) → k < most_starts → has l k ≡ false) → x < length l → Only x (set l x true)
only_set l x none h = record { here = get_or-set_same l x true false h; other = λ t m b. pick t m b (ℕ_discrete t x) }
  where
    pick : (t : ℕ) → t < most_starts → has (set l x true) t ≡ true → Dec (t ≡ x) → t ≡ x
    pick t m b (yes e) = e
    pick t m b (no n) = true_false (sym b ∙ get_or-set_other l x t true false n ∙ none t m)

pub only_here : (x : ℕ) → x < most_starts → Only x (set (replicate most_starts false) x true)
only_here x h = only_set (replicate most_starts false) x (λ k l. get_or-replicate most_starts k false false l) (rw length-replicate h)

pub next_inner : {s m : ℕ} → s + 1 < m → NextClass s m (s + 1)
next_inner {s} {m} h = record { within = h; next = λ t e. sym (mod-add-mod t m 1) ∙ ap (λ (k : ℕ). (k + 1) % m) e ∙ mod-eq_of_lt h }

pub next_wraps : {s m : ℕ} → s + 1 ≡ m → NextClass s m 0
next_wraps {s} {m} h = record { within = omega arith; next = λ t e. sym (mod-add-mod t m 1) ∙ ap (λ (k : ℕ). (k + 1) % m) e ∙ ap (λ (k : ℕ). k % m) h ∙ mod_self m }

-- no start from a - 1 on, if none from a on and not a - 1 itself
pub none_from : (q : List Bool) (a : ℕ) → ((k : ℕ) → k < most_starts → a ≤ k → has q k ≡ true → ⊥) → has q (a - 1) ≡ false → (k : ℕ) → k < most_starts → a - 1 ≤ k → has q k ≡ true → ⊥
none_from q a none here k h l y = pick (ℕ_discrete k (a - 1))
  where
    pick : Dec (k ≡ a - 1) → ⊥
    pick (yes e) = true_false (sym y ∙ ap (λ (j : ℕ). has q j) e ∙ here)
    pick (no n) = none k h (omega arith) y
