-- The first node of a tree that is not so, by its line.
use Rattle.std.specs.Prelude.{ℕ, suc, ◌+◌}
use Rattle.denial.specs.Box.{Box}
use Rattle.denial.specs.Tree.{Cut, Leaf, Tree, leaf, cut, lines}
use Rattle.denial.specs.Passes.{Rules, up_to, above, Allowed, So, Passes}

-- of a tree whose first line is k, line n is the first that is not so: a leaf that isn't, or a cut that is not allowed.
-- The lines of a cut's parts follow it: those of the part up to its number, then those of the part above it.
pub data FirstFalse (r : Rules) : Box → Tree → ℕ → ℕ → Type 0 where
  at_leaf : {b : Box} {x : Leaf} {k : ℕ} → (So r b x → ⊥) → FirstFalse r b (leaf x) k k
  at_cut : {b : Box} {c : Cut} {x y : Tree} {k : ℕ} → (Allowed r c → ⊥) → FirstFalse r b (cut c x y) k k
  in_first : {b : Box} {c : Cut} {x y : Tree} {k n : ℕ} → Allowed r c → FirstFalse r (up_to b c) x (suc k) n
      → FirstFalse r b (cut c x y) k n
  in_second : {b : Box} {c : Cut} {x y : Tree} {k n : ℕ} → Allowed r c → Passes r (up_to b c) x
      → FirstFalse r (above b c) y (suc k + lines x) n → FirstFalse r b (cut c x y) k n

-- the line at fault of a tree whose first line is k: 0 where the tree passes, else the first line that is not so
pub data TreeFault (r : Rules) (b : Box) (t : Tree) (k : ℕ) : ℕ → Type 0 where
  none : Passes r b t → TreeFault r b t k 0
  first : {n : ℕ} → FirstFalse r b t k n → TreeFault r b t k n
