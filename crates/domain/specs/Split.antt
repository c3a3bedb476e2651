-- The steps of a search that splits one operation's starts into classes, for any rule `Plan` on vectors of starts. The
-- measure is the number of allowed starts.
use Rattle.std.specs.Prelude.{◌≡◌, Bool, true, false, ◌≢◌, List, [], ℕ, ◌%◌, ◌≤◌, ◌<◌, set, length}
use Rattle.std.proofs.Common.{sym, subst, ◌∙◌, arith, get_or-set_same}
use Rattle.std.proofs.Math.Decide.{ℕ_discrete}
use Rattle.sizes.specs.Sizes.{most_operations, most_starts}
use Rattle.laws.specs.Entry.{vec}
use Rattle.laws.specs.Z.{true_false}
use Rattle.laws.specs.Store.{store}
use Rattle.laws.specs.Count.{total, bit, total_le, total_lt, bit_le, bit_lt}
use Rattle.domain.specs.Domain.{has, row_of, In, Part, Within, Keeps, Solved, OnlyClass, WithoutClass, Least}

-- the starts that a row allows
pub count : List Bool → ℕ
count q = total most_starts (λ t. bit (has q t))

-- the starts that a domain allows
pub size : ℕ → List (List Bool) → ℕ
size n ok = total n (λ i. count (row_of ok i))

pub count_le : {r q : List Bool} → Part r q → count r ≤ count q
unfolding count
count_le {r} {q} p = total_le most_starts (λ t. bit (has r t)) (λ t. bit (has q t)) (λ t h. bit_le (has r t) (has q t) (p.part t h))

pub count_lt : {r q : List Bool} → Part r q → (t : ℕ) → t < most_starts → has q t ≡ true → (has r t ≡ true → ⊥) → count r < count q
unfolding count
count_lt {r} {q} p t h y n = total_lt most_starts (λ t. bit (has r t)) (λ t. bit (has q t)) t h (bit_lt (has r t) (has q t) n y) (λ t h. bit_le (has r t) (has q t) (p.part t h))

pub size_le : {n : ℕ} {a b : List (List Bool)} → Within n a b → size n a ≤ size n b
unfolding size
size_le {n} {a} {b} w = total_le n (λ i. count (row_of a i)) (λ i. count (row_of b i)) (λ i h. count_le (w.row i h))

pub size_lt : {n : ℕ} {a b : List (List Bool)} → Within n a b → (i : ℕ) → i < n → (t : ℕ) → t < most_starts → has (row_of b i) t ≡ true → (has (row_of a i) t ≡ true → ⊥) → size n a < size n b
unfolding size
size_lt {n} {a} {b} w i l t h y m = total_lt n (λ i. count (row_of a i)) (λ i. count (row_of b i)) i l (count_lt (w.row i l) t h y m) (λ i h. count_le (w.row i h))

-- ---- parts

pub part_self : (q : List Bool) → Part q q
part_self q = record { part = λ t h y. y }

pub part_trans : {p q r : List Bool} → Part p q → Part q r → Part p r
part_trans a b = record { part = λ t h y. b.part t h (a.part t h y) }

pub within_self : {n : ℕ} (a : List (List Bool)) → Within n a a
within_self a = record { row = λ i h. part_self (row_of a i) }

pub within_trans : {n : ℕ} {a b c : List (List Bool)} → Within n a b → Within n b c → Within n a c
within_trans x y = record { row = λ i h. part_trans (x.row i h) (y.row i h) }

pub in_wider : {n : ℕ} {a b : List (List Bool)} {t : ℕ → ℕ} → Within n a b → In n a t → In n b t
in_wider {t = t} w h = record { small = h.small; allowed = λ i l. (w.row i l).part (t i) (h.small i l) (h.allowed i l) }

-- one row made smaller
pub within_set : {n : ℕ} {d : List (List Bool)} {i : ℕ} {r : List Bool} → i < length d → Part r (row_of d i) → Within n (set d i r) d
within_set {n} {d} {i} {r} l p = record { row = λ j h. store (λ k z. Part z (row_of d k)) d i r [] l p j (λ ne. part_self (row_of d j)) }

-- the starts t stay, if the new row allows its start
pub in_set : {n : ℕ} {d : List (List Bool)} {i : ℕ} (r : List Bool) {t : ℕ → ℕ} → i < length d → In n d t → has r (t i) ≡ true → In n (set d i r) t
in_set {n} {d} {i} r {t} l h y = record { small = h.small; allowed = λ j m. store (λ k z. has z (t k) ≡ true) d i r [] l y j (λ ne. h.allowed j m) }

module _ (Plan : (ℕ → ℕ) → Type 0) (n : ℕ) where
  pub keeps_self : (a : List (List Bool)) → Keeps Plan n a a
  keeps_self a = record { within = within_self a; kept = λ t p h. h }

  pub keeps_trans : {a b c : List (List Bool)} → Keeps Plan n a b → Keeps Plan n b c → Keeps Plan n a c
  keeps_trans x y = record { within = within_trans y.within x.within; kept = λ t p h. y.kept t p (x.kept t p h) }

  -- one row more made smaller, by a rule that loses no plan's start
  pub keeps_next : {a b : List (List Bool)} {i : ℕ} {r : List Bool} → i < length b → Keeps Plan n a b → Part r (row_of b i) → ((t : ℕ → ℕ) → Plan t → In n a t → In n b t → has r (t i) ≡ true) → Keeps Plan n a (set b i r)
  keeps_next {r = r} l k p f = record { within = within_trans (within_set l p) k.within; kept = λ t pl h. let q = k.kept t pl h in in_set r l q (f t pl h q) }

  -- an answer for the narrowed domain is one for the domain
  pub solved_wider : {b a : List (List Bool)} {f : Bool} {x : List ℕ} → Keeps Plan n b a → Solved Plan n a f x → Solved Plan n b f x
  solved_wider k s = record { inside = λ y. in_wider k.within (s.inside y); plan = s.plan; none = λ e t p h. s.none e t p (k.kept t p h) }

  pub solved_none : {a : List (List Bool)} {x : List ℕ} → ((t : ℕ → ℕ) → Plan t → In n a t → ⊥) → Solved Plan n a false x
  solved_none h = record { inside = λ y. true_false (sym y); plan = λ y. true_false (sym y); none = λ _. h }

  pub solved_found : {a : List (List Bool)} {x : List ℕ} → In n a (vec x) → Plan (vec x) → Solved Plan n a true x
  solved_found h p = record { inside = λ _. h; plan = λ _. p; none = λ y. true_false y }

-- ---- a split

-- operation i has starts of two classes modulo m
pub record Splits (n : ℕ) (d : List (List Bool)) (i m : ℕ) : Type 0 where
  pub op : i < n
  pub positive : 0 < m
  pub a : ℕ
  pub b : ℕ
  pub a_in : a < most_starts
  pub b_in : b < most_starts
  pub a_has : has (row_of d i) a ≡ true
  pub b_has : has (row_of d i) b ≡ true
  pub differ : a % m ≢ b % m

-- each plan has its start of i in `row`
pub record Left (Plan : (ℕ → ℕ) → Type 0) (n : ℕ) (d : List (List Bool)) (i : ℕ) (row : List Bool) : Type 0 where
  pub part : Part row (row_of d i)
  pub left : (t : ℕ → ℕ) → Plan t → In n d t → has row (t i) ≡ true

module _ (Plan : (ℕ → ℕ) → Type 0) (n : ℕ) {d : List (List Bool)} {i m : ℕ} (len : length d ≡ most_operations) (small : n ≤ most_operations) (sp : Splits n d i m) where
  here : i < length d
  here = omega (arith, sp.op)

  pub left_all : Left Plan n d i (row_of d i)
  left_all = record { part = part_self (row_of d i); left = λ t p h. h.allowed i sp.op }

  module _ {row : List Bool} {s : ℕ} {r : List Bool} (l : Left Plan n d i row) (o : OnlyClass row s m r) where
    child_part : Part r (row_of d i)
    child_part = part_trans o.was l.part

    pub child_within : Within n (set d i r) d
    child_within = within_set here child_part

    at_i : row_of (set d i r) i ≡ r
    at_i = get_or-set_same d i r [] here

    pub child_less : size n (set d i r) < size n d
    child_less = pick (ℕ_discrete (sp.a % m) s)
      where
        lost : (t : ℕ) → t < most_starts → t % m ≢ s → has (row_of (set d i r) i) t ≡ true → ⊥
        lost t h ne y = ne (o.of_class t h (subst (λ (q : List Bool). has q t ≡ true) at_i y))

        pick : Dec (sp.a % m ≡ s) → size n (set d i r) < size n d
        pick (yes e) = size_lt child_within i sp.op sp.b sp.b_in sp.b_has (lost sp.b sp.b_in (λ q. sp.differ (e ∙ sym q)))
        pick (no ne) = size_lt child_within i sp.op sp.a sp.a_in sp.a_has (lost sp.a sp.a_in ne)

    pub child_found : {f : Bool} {x : List ℕ} → Solved Plan n (set d i r) f x → f ≡ true → Solved Plan n d f x
    child_found z y = record { inside = λ _. in_wider child_within (z.inside y); plan = z.plan; none = λ e. true_false (sym y ∙ e) }

    -- the class s has no plan: go on with the other classes
    pub left_next : {f : Bool} {x : List ℕ} {q : List Bool} → Solved Plan n (set d i r) f x → f ≡ false → WithoutClass row s m q → Left Plan n d i q
    left_next {f} {x} {q} z e w = record { part = part_trans w.was l.part; left = λ t p h. pick t p h (ℕ_discrete (t i % m) s) }
      where
        pick : (t : ℕ → ℕ) → Plan t → In n d t → Dec (t i % m ≡ s) → has q (t i) ≡ true
        pick t p h (yes c) = absurd (z.none e t p (in_set r here h (o.in_class (t i) (h.small i sp.op) c (l.left t p h))))
        pick t p h (no c) = w.other (t i) (h.small i sp.op) c (l.left t p h)

  -- no start of i is left
  pub left_none : {row : List Bool} {u : ℕ} {x : List ℕ} → Left Plan n d i row → Least row u → u ≡ most_starts → Solved Plan n d false x
  left_none {row} {u} l z e = solved_none Plan n (λ t p h. z.before (t i) (omega (arith, h.small i sp.op)) (l.left t p h))

-- the classes that are left get fewer
pub rest_less : {row : List Bool} {s m : ℕ} {q : List Bool} {u : ℕ} → WithoutClass row s m q → Least row u → u < most_starts → u % m ≡ s → count q < count row
rest_less {u = u} w z h e = count_lt w.was u h (z.here h) (w.gone u h e)

-- ---- at a leaf

-- the least starts
pub record LeastStarts (n : ℕ) (d : List (List Bool)) (x : List ℕ) : Type 0 where
  pub least : (i : ℕ) → i < n → Least (row_of d i) (vec x i)

module _ (Plan : (ℕ → ℕ) → Type 0) (n : ℕ) {d : List (List Bool)} {x : List ℕ} (z : LeastStarts n d x) where
  pub low_in : ((i : ℕ) → i < n → vec x i < most_starts) → In n d (vec x)
  low_in h = record { small = h; allowed = λ i l. (z.least i l).here (h i l) }

  -- an operation with no start
  pub bare_none : {y : List ℕ} → (i : ℕ) → i < n → vec x i ≡ most_starts → Solved Plan n d false y
  bare_none i l e = solved_none Plan n (λ t p h. (z.least i l).before (t i) (omega (arith, h.small i l)) (h.allowed i l))

  -- each operation has one start, and those are no plan
  pub pinned_none : {y : List ℕ} → ((s t : ℕ → ℕ) → ((i : ℕ) → i < n → s i ≡ t i) → Plan s → Plan t) → ((i : ℕ) → i < n → (t : ℕ) → t < most_starts → has (row_of d i) t ≡ true → t ≡ vec x i) → (Plan (vec x) → ⊥) → Solved Plan n d false y
  pinned_none local one bad = solved_none Plan n (λ t p h. bad (local t (vec x) (λ i l. one i l (t i) (h.small i l) (h.allowed i l)) p))
