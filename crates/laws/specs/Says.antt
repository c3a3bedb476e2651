-- What a test says: yes exactly when the fact holds. Assumes nothing.
use Rattle.std.specs.Prelude.{◌≡◌, refl, Bool, true, false}
use Rattle.std.proofs.Common.{sym}
use Rattle.laws.specs.Z.{true_false}

-- a test of P with the result r, exactly
pub record Says (P : Type 0) (r : Bool) : Type 0 where
  pub yes : r ≡ true → P
  pub no : r ≡ false → P → ⊥

pub yes_says : {P : Type 0} → P → Says P true
yes_says p = record { yes = λ _. p; no = λ e. true_false e }

pub no_says : {P : Type 0} → (P → ⊥) → Says P false
no_says n = record { yes = λ e. true_false (sym e); no = λ _ p. n p }

-- a fact that holds gets a yes
pub says_true : {P : Type 0} (r : Bool) → Says P r → P → r ≡ true
says_true true s p = refl
says_true false s p = absurd (s.no refl p)

-- at most one result is exact
pub says_one : {P : Type 0} (a b : Bool) → Says P a → Says P b → a ≡ b
says_one true b p q = sym (says_true b q (p.yes refl))
says_one false true p q = absurd (p.no refl (q.yes refl))
says_one false false p q = refl
