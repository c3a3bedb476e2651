-- Laws of texts one after the other: how long they are, and that equal ones have equal parts.
-- Assumes nothing.
use Rattle.std.specs.Prelude.{ℕ, zero, suc, ◌+◌, ◌*◌, ◌<◌, ◌≡◌, refl, List, [], ◌∷◌, ◌++◌, length}
use Rattle.std.proofs.Common.{arith, add-one, sym, ap, ap₂, subst, ◌∙◌, length-append}
use Rattle.std.proofs.Math.Decide.{ℕ_discrete}
use Rattle.laws.specs.Count.{total}
use Rattle.page_text.specs.Columns.{up_to}

pub up_none : (f : ℕ → List ℕ) → up_to 0 f ≡ []
unfolding up_to
up_none f = refl

pub up_more : (n : ℕ) (f : ℕ → List ℕ) → up_to (n + 1) f ≡ up_to n f ++ f n
unfolding up_to
up_more n f = rw add-one

pub up_same : (n : ℕ) (f g : ℕ → List ℕ) → ((i : ℕ) → i < n → f i ≡ g i) → up_to n f ≡ up_to n g
unfolding up_to
up_same zero f g h = refl
up_same (suc n) f g h = ap₂ ◌++◌ (up_same n f g (λ i l. h i (omega arith))) (h n (omega arith))

-- ---- lengths

pub up_total : (n : ℕ) (f : ℕ → List ℕ) (w : ℕ → ℕ) → ((i : ℕ) → i < n → length (f i) ≡ w i) → length (up_to n f) ≡ total n w
unfolding up_to total
up_total zero f w h = refl
up_total (suc n) f w h = length-append (up_to n f) (f n) ∙ ap₂ ◌+◌ (up_total n f w (λ i l. h i (omega arith))) (h n (omega arith))

pub up_length : (n : ℕ) (f : ℕ → List ℕ) (w : ℕ) → ((i : ℕ) → i < n → length (f i) ≡ w) → length (up_to n f) ≡ n * w
unfolding up_to
up_length zero f w h = omega arith
up_length (suc n) f w h = length-append (up_to n f) (f n) ∙ omega (arith, up_length n f w (λ i l. h i (omega arith)), h n (omega arith))

-- ---- equal texts have equal parts

head_of : List ℕ → ℕ
head_of [] = 0
head_of (x ∷ xs) = x

tail_of : List ℕ → List ℕ
tail_of [] = []
tail_of (x ∷ xs) = xs

-- equal texts with fronts of one length have equal fronts and equal rests
pub split_equal : (a b c d : List ℕ) → length a ≡ length c → a ++ b ≡ c ++ d → (a ≡ c) × (b ≡ d)
unfolding head_of tail_of
split_equal [] b [] d n e = (refl, e)
split_equal [] b (x ∷ c) d n e = absurd (omega arith)
split_equal (x ∷ a) b [] d n e = absurd (omega arith)
split_equal (x ∷ a) b (y ∷ c) d n e =
    let r = split_equal a b c d (omega arith) (ap tail_of e) in
    let h : x ≡ y = ap head_of e in
    ((λ i. h i ∷ r.0 i), r.1)

-- each of n texts that go one after the other
pub up_parts : (n : ℕ) (f g : ℕ → List ℕ) (w : ℕ → ℕ) → ((i : ℕ) → i < n → length (f i) ≡ w i) → ((i : ℕ) → i < n → length (g i) ≡ w i)
    → up_to n f ≡ up_to n g → (i : ℕ) → i < n → f i ≡ g i
unfolding up_to
up_parts zero f g w p q e i h = absurd (omega arith)
up_parts (suc n) f g w p q e i h =
    let a = up_total n f w (λ k l. p k (omega arith)) in
    let b = up_total n g w (λ k l. q k (omega arith)) in
    let r = split_equal (up_to n f) (f n) (up_to n g) (g n) (a ∙ sym b) e in
    at r (ℕ_discrete i n) (λ l. up_parts n f g w (λ k m. p k (omega arith)) (λ k m. q k (omega arith)) r.0 i l)
  where
    at : (up_to n f ≡ up_to n g) × (f n ≡ g n) → Dec (i ≡ n) → (i < n → f i ≡ g i) → f i ≡ g i
    at r (yes x) ih = subst (λ (k : ℕ). f k ≡ g k) (sym x) r.1
    at r (no x) ih = ih (omega arith)
