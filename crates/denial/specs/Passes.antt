-- When the tree of a denial passes: each split or seat is allowed, and each leaf is so by what the cuts above it leave.
-- Said of any rules that a tree can look at; `At` gives those of a sheet at an interval, and the root's box.
use Rattle.std.specs.Prelude.{ℕ, ◌<◌, ◌≡◌, ◌≢◌, List, pos, ◌+ℤ◌, ◌<ℤ◌}
use Rattle.dependence.specs.declared.Graph.{Graph}
use Rattle.dependence.specs.Rules.{Meets, Chain, sum, BadWalk}
use Rattle.denial.specs.Box.{Box, starts_to, starts_above, instances_to, instances_above}
use Rattle.denial.specs.Tree.{Cut, split, seat, Leaf, loop, late, clash, Tree, leaf, cut}

-- the rules of a plan that a tree can look at, beside the box
pub record Rules : Type 1 where
  pub ops : ℕ  -- how many operations
  pub graph : Graph  -- the dependences
  pub interval : ℕ
  pub kind : ℕ → ℕ  -- the type of an operation
  pub instances : ℕ → ℕ  -- and that type's instances; 0 is unlimited
  pub Never : ℕ → Type 0  -- an operation can't stand by itself, at any start
  pub Barred : ℕ → ℕ → Type 0  -- it can't at this start
  pub Overlap : ℕ → ℕ → ℕ → ℕ → Type 0  -- i at t and j at t' share a held slot: on one instance rivals may not

-- two different operations of one limited type
pub record Rivals (r : Rules) (i j : ℕ) : Type 0 where
  pub different : i ≢ j
  pub one_kind : r.kind i ≡ r.kind j
  pub limited : 0 < r.instances i

-- the starts t and the instances u keep the rules
pub record Keeps (r : Rules) (t u : ℕ → ℕ) : Type 0 where
  pub dependence : Meets r.graph r.interval (λ i. pos (t i))
  pub ever : (i : ℕ) → i < r.ops → r.Never i → ⊥
  pub alone : (i : ℕ) → i < r.ops → r.Barred i (t i) → ⊥
  pub apart : (i j : ℕ) → i < r.ops → j < r.ops → Rivals r i j → u i ≡ u j → r.Overlap i (t i) j (t j) → ⊥

-- ---- cuts

-- the box of the first subtree: what is up to the number
unfoldable pub up_to : Box → Cut → Box
up_to b (split i v) = starts_to b i v
up_to b (seat i k) = instances_to b i k

-- the box of the second: what is above it
unfoldable pub above : Box → Cut → Box
above b (split i v) = starts_above b i v
above b (seat i k) = instances_above b i k

-- only a limited operation's instances are cut
unfoldable pub Allowed : Rules → Cut → Type 0
Allowed r (split i v) = Unit {0}
Allowed r (seat i k) = 0 < r.instances i

-- ---- leaves

-- i has one start left: its lowest is its highest
abbrev pub OneStart : Box → ℕ → Type 0
OneStart b i = pos (b.lowest i) ≡ b.highest i

-- i is pinned to one start and instance
pub record Pinned (b : Box) (i : ℕ) : Type 0 where
  pub start : OneStart b i
  pub instance : b.first i ≡ b.last i

-- `late=`: the lowest start left to i plus the chain's sum exceeds the highest left to its end
pub record Late (r : Rules) (b : Box) (i : ℕ) (ks : List ℕ) : Type 0 where
  pub end : ℕ
  pub chain : Chain r.graph i ks end
  pub exceeds : b.highest end <ℤ (pos (b.lowest i) +ℤ sum r.graph r.interval ks)

-- `clash=i,j`: two different operations, both pinned, same limited type and instance, sharing a held slot;
-- `clash=i,i`: i can't stand by itself, at any start or at the only one left
pub data Clash (r : Rules) (b : Box) : ℕ → ℕ → Type 0 where
  two : {i j : ℕ} → Rivals r i j → Pinned b i → Pinned b j → b.first i ≡ b.first j
      → r.Overlap i (b.lowest i) j (b.lowest j) → Clash r b i j
  never : {i : ℕ} → r.Never i → Clash r b i i
  barred : {i : ℕ} → OneStart b i → r.Barred i (b.lowest i) → Clash r b i i

-- the leaf is so in this box; a bad closed walk is one in any
unfoldable pub So : Rules → Box → Leaf → Type 0
So r b (loop ks) = BadWalk r.graph r.interval ks
So r b (late i ks) = Late r b i ks
So r b (clash i j) = Clash r b i j

-- ---- the tree

-- the tree passes in this box: its cuts are allowed, and its leaves are so in what is left to them
unfoldable pub Passes : Rules → Box → Tree → Type 0
Passes r b (leaf x) = So r b x
Passes r b (cut c t t') = Allowed r c × (Passes r (up_to b c) t × Passes r (above b c) t')
