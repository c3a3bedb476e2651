-- The tree of a denial, one node a line: its nodes, which operations and edges it names, and how large it is. When it
-- passes is said in `Passes`.
use Rattle.std.specs.Prelude.{ℕ, suc, ◌+◌, ◌<◌, max, List, [], ◌∷◌}

-- a node with two subtrees: the first for what is up to a number, the second for what is above it
pub data Cut : Type 0 where
  split : ℕ → ℕ → Cut  -- `split=i,v`: starts of i up to v, and above v
  seat : ℕ → ℕ → Cut  -- `seat=i,k`: instances of i up to k, and above k

-- a node with none: it says why nothing is left
pub data Leaf : Type 0 where
  loop : List ℕ → Leaf  -- `loop=` and the edges of a bad closed walk
  late : ℕ → List ℕ → Leaf  -- `late=i` and the edges of a chain from i, perhaps none
  clash : ℕ → ℕ → Leaf  -- `clash=i,j`, and `clash=i,i` of i by itself

-- a tree of such nodes
pub data Tree : Type 0 where
  leaf : Leaf → Tree
  cut : Cut → Tree → Tree → Tree

-- ---- a tree names only operations below n and edges below m

-- each number of a list is below m
pub data Below (m : ℕ) : List ℕ → Type 0 where
  none : Below m []
  more : {k : ℕ} {ks : List ℕ} → k < m → Below m ks → Below m (k ∷ ks)

-- the operation of a cut is below n
unfoldable pub CutKnown : ℕ → Cut → Type 0
CutKnown n (split i v) = i < n
CutKnown n (seat i k) = i < n

-- the operations of a leaf are below n, its edges below m
unfoldable pub LeafKnown : ℕ → ℕ → Leaf → Type 0
LeafKnown n m (loop ks) = Below m ks
LeafKnown n m (late i ks) = (i < n) × Below m ks
LeafKnown n m (clash i j) = (i < n) × (j < n)

-- so are those of every node of a tree
unfoldable pub Known : ℕ → ℕ → Tree → Type 0
Known n m (leaf x) = LeafKnown n m x
Known n m (cut c t t') = CutKnown n c × (Known n m t × Known n m t')

-- ---- sizes

-- the lines of a tree, one a node
unfoldable pub lines : Tree → ℕ
lines (leaf x) = 1
lines (cut c t t') = suc (lines t + lines t')

-- the most splits and seats above a leaf
unfoldable pub depth : Tree → ℕ
depth (leaf x) = 0
depth (cut c t t') = suc (max (depth t) (depth t'))
