-- A tree in the bytes of an answer: a line for each node, a cut before its two parts.
use Rattle.std.specs.Prelude.{ℕ, zero, suc, cond, List, ltb}
use Rattle.denial.specs.Tree.{Tree, leaf, cut}
use Rattle.tree_lines.specs.Node.{on_node, node_of}

-- lines of an answer
abbrev pub most_lines : ℕ
most_lines = 1024

-- splits and seats above a leaf
abbrev pub most_cuts : ℕ
most_cuts = 64

-- a tree, the number of the line after it, and what follows it; or the number of the line at which reading stopped
pub data TreeRead : Type 0 where
  read : Tree → ℕ → List ℕ → TreeRead
  unread : ℕ → TreeRead

-- f of a tree, of the line after it and of what follows it, where there is one
abbrev pub on_tree : TreeRead → (Tree → ℕ → List ℕ → TreeRead) → TreeRead
on_tree (read t l rest) f = f t l rest
on_tree (unread l) f = unread l

-- the tree that the bytes begin with, from line k on, of a sheet with n operations and m edges; no leaf has more than d
-- cuts above it
unfoldable pub tree_from : ℕ → ℕ → ℕ → ℕ → List ℕ → TreeRead
tree_from n m zero k bs =
    cond (ltb most_lines k) (unread k)
    (on_node (node_of n m bs) (λ c rest. unread k) (λ x rest. read (leaf x) (suc k) rest) (unread k))
tree_from n m (suc d) k bs =
    cond (ltb most_lines k) (unread k)
    (on_node (node_of n m bs)
    (λ c rest.
    on_tree (tree_from n m d (suc k) rest) (λ x l rest'.
    on_tree (tree_from n m d l rest') (λ y l' rest''. read (cut c x y) l' rest'')))
    (λ x rest. read (leaf x) (suc k) rest)
    (unread k))
