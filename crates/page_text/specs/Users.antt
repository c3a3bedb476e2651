-- Laws of the operation that uses an instance in a slot, and of the search for it.
-- Assumes nothing.
use Rattle.std.specs.Prelude.{ℕ, zero, suc, ◌+◌, ◌≤◌, ◌<◌, ◌≡◌, refl, Bool, true, false, cond, List, eqb, ltb, length, set, replicate}
use Rattle.std.proofs.Common.{arith, add-one, sym, ap, ap₂, subst, ◌∙◌, length-set, eq-eqb, ne_eqb, ltb-true, ltb-false}
use Rattle.std.proofs.Math.Decide.{ℕ_discrete}
use Rattle.sizes.specs.Sizes.{most_operations, most_instances}
use Rattle.laws.specs.Z.{true_false}
use Rattle.laws.specs.Entry.{vec}
use Rattle.laws.specs.Store.{store, all_zero}
use Rattle.laws.specs.Count.{both_show}
use Rattle.laws.specs.Tests.{by_test}
use Rattle.page_text.specs.Page.{last_of}

-- ---- the last that has a flag

last_none : (flag : ℕ → Bool) → 0 ≡ last_of 0 flag
unfolding last_of
last_none flag = refl

last_hit : (n : ℕ) (flag : ℕ → Bool) → flag n ≡ true → n + 1 ≡ last_of (n + 1) flag
unfolding last_of
last_hit n flag e = rw (add-one, e)

last_miss : (n : ℕ) (flag : ℕ → Bool) → flag n ≡ false → last_of n flag ≡ last_of (n + 1) flag
unfolding last_of
last_miss n flag e = rw (add-one, e)

pub last_same : (n : ℕ) (f g : ℕ → Bool) → ((i : ℕ) → i < n → f i ≡ g i) → last_of n f ≡ last_of n g
unfolding last_of
last_same zero f g h = refl
last_same (suc n) f g h = ap₂ (λ (b : Bool) (k : ℕ). cond b (suc n) k) (h n (omega arith)) (last_same n f g (λ i l. h i (omega arith)))

pub last_bound : (n : ℕ) (flag : ℕ → Bool) → last_of n flag ≤ n
unfolding last_of
last_bound zero flag = omega arith
last_bound (suc n) flag = at (flag n) (last_bound n flag)
  where
    at : (b : Bool) → last_of n flag ≤ n → cond b (suc n) (last_of n flag) ≤ suc n
    at true ih = omega arith
    at false ih = omega arith

pub last_true : (n : ℕ) (flag : ℕ → Bool) (i : ℕ) → last_of n flag ≡ suc i → flag i ≡ true
unfolding last_of
last_true zero flag i e = absurd (omega arith)
last_true (suc n) flag i e = at (flag n) refl (λ q. last_true n flag i q)
  where
    at : (b : Bool) → flag n ≡ b → (last_of n flag ≡ suc i → flag i ≡ true) → flag i ≡ true
    at true q ih =
        let w : suc n ≡ suc i = sym (ap (λ (b : Bool). cond b (suc n) (last_of n flag)) q) ∙ e in
        let v : n ≡ i = omega arith in
        subst (λ (x : ℕ). flag x ≡ true) v q
    at false q ih = ih (sym (ap (λ (b : Bool). cond b (suc n) (last_of n flag)) q) ∙ e)

pub last_only : (n : ℕ) (flag : ℕ → Bool) (i : ℕ) → i < n → flag i ≡ true → ((j : ℕ) → j < n → flag j ≡ true → j ≡ i) → last_of n flag ≡ suc i
unfolding last_of
last_only zero flag i h t u = absurd (omega arith)
last_only (suc n) flag i h t u = at (flag n) refl (λ l. last_only n flag i l t (λ j q. u j (omega arith)))
  where
    at : (b : Bool) → flag n ≡ b → (i < n → last_of n flag ≡ suc i) → cond (flag n) (suc n) (last_of n flag) ≡ suc i
    at true q ih = ap (λ (b : Bool). cond b (suc n) (last_of n flag)) q ∙ ap suc (u n (omega arith) q)
    at false q ih = ap (λ (b : Bool). cond b (suc n) (last_of n flag)) q ∙ ih (other (ℕ_discrete i n))
      where
        other : Dec (i ≡ n) → i < n
        other (yes e) = true_false (sym t ∙ ap flag e ∙ q)
        other (no ne) = omega arith

-- ---- the users of a slot, instance by instance

-- the array holds the users that f gives
pub record UsersOf (f : ℕ → ℕ) (xs : List ℕ) : Type 0 where
  pub size : length xs ≡ most_instances
  pub each : (a : ℕ) → a < most_instances → vec xs a ≡ f a

-- users that are operations
abbrev pub FewUsers : (ℕ → ℕ) → Type 0
FewUsers f = (a : ℕ) → a < most_instances → f a ≤ most_operations

-- the users xs, and operation i on the instance u besides, where it is there and u is a column
unfoldable pub with_user : List ℕ → Bool → ℕ → ℕ → List ℕ
with_user xs there u i = cond there (cond (ltb u most_instances) (set xs u (i + 1)) xs) xs

-- the flags of the operations at one slot: whether operation i has some instance there, and which
module _ (there : ℕ → Bool) (instance : ℕ → ℕ) where
  -- the operation before n that uses the instance a
  abbrev pub found : ℕ → ℕ → ℕ
  found n a = last_of n (λ i. cond (there i) (eqb (instance i) a) false)

  -- before the first operation
  pub users_none : UsersOf (found 0) (replicate most_instances 0)
  users_none = record { size = refl; each = λ a h. all_zero most_instances a ∙ last_none (λ i. cond (there i) (eqb (instance i) a) false) }

  -- operation n is not there
  users_miss : (n : ℕ) (xs : List ℕ) → there n ≡ false → UsersOf (found n) xs → UsersOf (found (n + 1)) xs
  users_miss n xs e p = record {
    size = p.size;
    each = λ a h. p.each a h ∙ last_miss n (λ i. cond (there i) (eqb (instance i) a) false) (ap (λ (b : Bool). cond b (eqb (instance n) a) false) e);
  }

  -- operation n is on an instance past the columns
  users_past : (n : ℕ) (xs : List ℕ) → most_instances ≤ instance n → UsersOf (found n) xs → UsersOf (found (n + 1)) xs
  users_past n xs k p = record {
    size = p.size;
    each = λ a h. p.each a h ∙ last_miss n (λ i. cond (there i) (eqb (instance i) a) false) (other (there n) a (ne_eqb (instance n) a (λ e. omega arith)));
  }
    where
      other : (b : Bool) (a : ℕ) → eqb (instance n) a ≡ false → cond b (eqb (instance n) a) false ≡ false
      other true a e = e
      other false a e = refl

  -- operation n is there, on one of the columns
  users_hit : (n : ℕ) (xs : List ℕ) → there n ≡ true → instance n < most_instances → UsersOf (found n) xs → UsersOf (found (n + 1)) (set xs (instance n) (n + 1))
  users_hit n xs e k p = record {
    size = length-set xs (instance n) (n + 1) ∙ p.size;
    each = λ a h. store (λ b x. x ≡ found (n + 1) b) xs (instance n) (n + 1) 0 (omega (arith, p.size))
        (last_hit n (λ i. cond (there i) (eqb (instance i) (instance n)) false) (both_show (there n) (eqb (instance n) (instance n)) e (eq-eqb (instance n) (instance n) refl)))
        a (λ ne. p.each a h ∙ last_miss n (λ i. cond (there i) (eqb (instance i) a) false) (ap (λ (b : Bool). cond b (eqb (instance n) a) false) e ∙ ne_eqb (instance n) a (λ q. ne (sym q))));
  }

  -- one operation more
  pub users_more : (n : ℕ) (xs : List ℕ) → UsersOf (found n) xs → UsersOf (found (n + 1)) (with_user xs (there n) (instance n) n)
  unfolding with_user
  users_more n xs p =
      by_test (there n)
      (λ t. by_test (ltb (instance n) most_instances)
      (λ l. rw (t, l) (users_hit n xs t (ltb-true (instance n) most_instances l) p))
      (λ l. rw (t, l) (users_past n xs (ltb-false (instance n) most_instances l) p)))
      (λ t. rw t (users_miss n xs t p))
