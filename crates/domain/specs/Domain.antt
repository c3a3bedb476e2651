-- Domains: row i has a flag for each start of operation i, whether it is still allowed. A vector of starts is a
-- function of the operation. What the row functions, a narrowing rule and a search answer.
use Rattle.std.specs.Prelude.{◌≡◌, Bool, true, false, ◌⊎◌, ◌≢◌, List, [], ℕ, ◌%◌, ◌≤◌, ◌<◌, ◌+◌, get_or}
use Rattle.sizes.specs.Sizes.{most_starts}
use Rattle.laws.specs.Entry.{vec}

-- whether start t is allowed by a row
abbrev pub has : List Bool → ℕ → Bool
has row t = get_or row t false

-- the row of operation i; past the last row no start is allowed
abbrev pub row_of : List (List Bool) → ℕ → List Bool
row_of ok i = get_or ok i []

-- the starts t are allowed
pub record In (n : ℕ) (ok : List (List Bool)) (t : ℕ → ℕ) : Type 0 where
  pub small : (i : ℕ) → i < n → t i < most_starts
  pub allowed : (i : ℕ) → i < n → has (row_of ok i) (t i) ≡ true

-- each start that the row r allows is allowed by the row q
pub record Part (r q : List Bool) : Type 0 where
  pub part : (t : ℕ) → t < most_starts → has r t ≡ true → has q t ≡ true

-- each start that the domain a allows is allowed by the domain b
pub record Within (n : ℕ) (a b : List (List Bool)) : Type 0 where
  pub row : (i : ℕ) → i < n → Part (row_of a i) (row_of b i)

-- a step that loses no plan and allows no start anew
pub record Keeps (Plan : (ℕ → ℕ) → Type 0) (n : ℕ) (b a : List (List Bool)) : Type 0 where
  pub within : Within n a b
  pub kept : (t : ℕ → ℕ) → Plan t → In n b t → In n a t

-- what a search answers
pub record Solved (Plan : (ℕ → ℕ) → Type 0) (n : ℕ) (ok : List (List Bool)) (found : Bool) (x : List ℕ) : Type 0 where
  pub inside : found ≡ true → In n ok (vec x)
  pub plan : found ≡ true → Plan (vec x)
  pub none : found ≡ false → (t : ℕ → ℕ) → Plan t → In n ok t → ⊥

-- s comes before t, or is t: the first of n operations where they differ decides
pub record Before (n : ℕ) (s t : ℕ → ℕ) : Type 0 where
  pub case : ((v : ℕ) → v < n → s v ≡ t v) ⊎ ((k : ℕ) × (k < n) × (s k < t k) × ((v : ℕ) → v < k → s v ≡ t v))

-- the first plan in the domain, or that there is none
pub record FirstIn (Plan : (ℕ → ℕ) → Type 0) (n : ℕ) (ok : List (List Bool)) (found : Bool) (x : List ℕ) : Type 0 where
  pub inside : found ≡ true → In n ok (vec x)
  pub plan : found ≡ true → Plan (vec x)
  pub first : found ≡ true → (t : ℕ → ℕ) → Plan t → In n ok t → Before n (vec x) t
  pub none : found ≡ false → (t : ℕ → ℕ) → Plan t → In n ok t → ⊥

-- ---- rows

-- the starts of q that pass a test, where `test t b` says that the test may answer b of start t
pub record Kept (test : ℕ → Bool → Type 0) (q : List Bool) (r : List Bool) : Type 0 where
  pub passes : (t : ℕ) → t < most_starts → has r t ≡ true → test t true
  pub fails : (t : ℕ) → t < most_starts → has q t ≡ true → has r t ≡ false → test t false
  pub was : Part r q

-- the class of the start after one of class s
pub record NextClass (s m r : ℕ) : Type 0 where
  pub within : r < m
  pub next : (t : ℕ) → t % m ≡ s → (t + 1) % m ≡ r

-- the starts of q in the class s modulo m
pub record OnlyClass (q : List Bool) (s m : ℕ) (r : List Bool) : Type 0 where
  pub in_class : (t : ℕ) → t < most_starts → t % m ≡ s → has q t ≡ true → has r t ≡ true
  pub of_class : (t : ℕ) → t < most_starts → has r t ≡ true → t % m ≡ s
  pub was : Part r q

-- the starts of q in the other classes
pub record WithoutClass (q : List Bool) (s m : ℕ) (r : List Bool) : Type 0 where
  pub other : (t : ℕ) → t < most_starts → t % m ≢ s → has q t ≡ true → has r t ≡ true
  pub gone : (t : ℕ) → t < most_starts → t % m ≡ s → has r t ≡ true → ⊥
  pub was : Part r q

-- the starts of q below x
pub record Below (q : List Bool) (x : ℕ) (r : List Bool) : Type 0 where
  pub low : (t : ℕ) → t < most_starts → t < x → has q t ≡ true → has r t ≡ true
  pub high : (t : ℕ) → t < most_starts → x ≤ t → has r t ≡ true → ⊥
  pub was : Part r q

-- the starts of q from x on
pub record From (q : List Bool) (x : ℕ) (r : List Bool) : Type 0 where
  pub high : (t : ℕ) → t < most_starts → x ≤ t → has q t ≡ true → has r t ≡ true
  pub low : (t : ℕ) → t < most_starts → t < x → has r t ≡ true → ⊥
  pub was : Part r q

-- the start x alone
pub record Only (x : ℕ) (r : List Bool) : Type 0 where
  pub here : has r x ≡ true
  pub other : (t : ℕ) → t < most_starts → has r t ≡ true → t ≡ x

-- the least start of a row, or `most_starts`
pub record Least (q : List Bool) (r : ℕ) : Type 0 where
  pub within : r ≤ most_starts
  pub here : r < most_starts → has q r ≡ true
  pub before : (t : ℕ) → t < r → has q t ≡ true → ⊥

-- one past the last start of a row, or 0
pub record End (q : List Bool) (r : ℕ) : Type 0 where
  pub within : r ≤ most_starts
  pub here : (t : ℕ) → t + 1 ≡ r → has q t ≡ true
  pub after : (t : ℕ) → t < most_starts → r ≤ t → has q t ≡ true → ⊥

-- two starts of different classes, or only one class, that of x
pub record Other (q : List Bool) (x m : ℕ) (r : Bool) : Type 0 where
  pub yes : r ≡ true → (t : ℕ) × (t < most_starts) × (has q t ≡ true) × (t % m ≢ x % m)
  pub no : r ≡ false → (t : ℕ) → t < most_starts → has q t ≡ true → t % m ≡ x % m
