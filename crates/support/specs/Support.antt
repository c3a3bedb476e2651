-- Rule 1: a start goes only where the other operation has no start that keeps both lags with it. Lags are
-- shifted by `most_starts`, so that none is negative. Assumes nothing.
use Rattle.std.specs.Prelude.{◌≡◌, Bool, true, false, List, ℕ, ◌+◌, ◌≤◌, ◌<◌, ℤ, pos, ◌+ℤ◌, ◌≤ℤ◌}
use Rattle.sizes.specs.Sizes.{most_starts}
use Rattle.laws.specs.Entry.{vec}
use Rattle.domain.specs.Domain.{has, Part}

-- the greatest shifted lag
abbrev pub most_shift : ℕ
most_shift = most_starts + most_starts

-- starts x and t keep the shifted lag s
abbrev pub Fits : ℕ → ℕ → ℕ → Type 0
Fits x s t = x + s ≤ t + most_starts

-- s is a lag, shifted: starts that keep the lag keep s
pub record Shifted (lag : ℤ) (s : ℕ) : Type 0 where
  pub within : s ≤ most_shift
  pub fits : (x t : ℕ) → x < most_starts → t < most_starts → (pos x +ℤ lag) ≤ℤ pos t → Fits x s t

-- r is a where b is true, else `later`
pub record Earlier (b : Bool) (a later r : ℕ) : Type 0 where
  pub yes : b ≡ true → r ≡ a
  pub no : b ≡ false → r ≡ later

-- v is at most any start of q from a on, moved up by `most_starts`
pub record Later (q : List Bool) (a v : ℕ) : Type 0 where
  pub upto : (x : ℕ) → a ≤ x → x < most_starts → has q x ≡ true → v ≤ x + most_starts

-- from a on, entry k is at most any start x of the row with k ≤ x + most_starts, moved up by `most_starts`
pub record NextFrom (q : List Bool) (a : ℕ) (next : List ℕ) : Type 0 where
  pub upto : (k : ℕ) → a ≤ k → (x : ℕ) → k ≤ x + most_starts → x < most_starts → has q x ≡ true → vec next k ≤ x + most_starts

-- r is `next` with v in each entry below `most_starts`
pub record Filled (next : List ℕ) (v : ℕ) (r : List ℕ) : Type 0 where
  pub low : (k : ℕ) → k < most_starts → vec r k ≡ v
  pub high : (k : ℕ) → most_starts ≤ k → vec r k ≡ vec next k

-- the row r loses no start of `row` that some start of q supports, and has none that `row` lacks; which of the others
-- it has is left free. The lags are shifted
pub record Supported (q row : List Bool) (there back : ℕ) (r : List Bool) : Type 0 where
  pub was : Part r row
  pub stays : (x t : ℕ) → x < most_starts → t < most_starts → has q x ≡ true → has row t ≡ true → Fits x there t → Fits t back x → has r t ≡ true

-- of the row q: no start is before `least`, each is below `end`, and `next` has no entry that is too late
pub record Known (q : List Bool) (least end : ℕ) (next : List ℕ) : Type 0 where
  pub from : (x : ℕ) → x < most_starts → has q x ≡ true → least ≤ x
  pub upto : (x : ℕ) → x < most_starts → has q x ≡ true → x < end
  pub next_from : NextFrom q 0 next

-- the row r loses no start of `row` that some start of a row supports of which that is known
pub record SupportedBy (least end : ℕ) (next : List ℕ) (row : List Bool) (there back : ℕ) (r : List Bool) : Type 0 where
  pub by : (q : List Bool) → Known q least end next → Supported q row there back r

-- the same for one start, by the next starts alone
pub record At (next : List ℕ) (b : Bool) (there back t : ℕ) (r : Bool) : Type 0 where
  pub was : r ≡ true → b ≡ true
  pub stays : (q : List Bool) → NextFrom q 0 next → (x : ℕ) → x < most_starts → has q x ≡ true → b ≡ true → Fits x there t → Fits t back x → r ≡ true
