-- Colourings of a graph with n nodes by a colours. The graph is a table: row i has a flag for each node that i is
-- joined to.
use Rattle.std.specs.Prelude.{◌≡◌, Bool, true, List, ℕ, ◌<◌, Option, MatchOption}
use Rattle.laws.specs.Entry.{vec}
use Rattle.domain.specs.Domain.{has, row_of, Before}

-- whether an edge joins the nodes i and k
abbrev pub joins : List (List Bool) → ℕ → ℕ → Bool
joins c i k = has (row_of c i) k

-- a simple graph: edges have no direction, and none joins a node to itself
pub record Graph (n : ℕ) (c : List (List Bool)) : Type 0 where
  pub both : (i k : ℕ) → i < n → k < n → joins c i k ≡ true → joins c k i ≡ true
  pub simple : (i : ℕ) → i < n → joins c i i ≡ true → ⊥

-- w gives each node one of a colours, and joined nodes different ones
pub record Coloured (n : ℕ) (c : List (List Bool)) (a : ℕ) (w : ℕ → ℕ) : Type 0 where
  pub below : (i : ℕ) → i < n → w i < a
  pub apart : (i k : ℕ) → i < n → k < n → joins c i k ≡ true → w i ≡ w k → ⊥

-- u does so for the nodes that are `done`
pub record Partial (n : ℕ) (c : List (List Bool)) (a : ℕ) (done : List Bool) (u : List ℕ) : Type 0 where
  pub below : (i : ℕ) → i < n → has done i ≡ true → vec u i < a
  pub apart : (i k : ℕ) → i < n → k < n → has done i ≡ true → has done k ≡ true
      → joins c i k ≡ true → vec u i ≡ vec u k → ⊥

-- a colouring that gives the nodes that are `done` their colours in u
pub record Extends (n : ℕ) (c : List (List Bool)) (a : ℕ) (done : List Bool) (u : List ℕ) (w : ℕ → ℕ) : Type 0 where
  pub coloured : Coloured n c a w
  pub same : (i : ℕ) → i < n → has done i ≡ true → w i ≡ vec u i

-- what a search for such a colouring answers
abbrev pub Searched : ℕ → List (List Bool) → ℕ → List Bool → List ℕ → Option (List ℕ) → Type 0
Searched n c a done u found = MatchOption found ((x : ℕ → ℕ) → Extends n c a done u x → ⊥) (λ w. Extends n c a done u (vec w))

-- a colouring, or that there is none
abbrev pub SomeColouring : ℕ → List (List Bool) → ℕ → Option (List ℕ) → Type 0
SomeColouring n c a found = MatchOption found ((x : ℕ → ℕ) → Coloured n c a x → ⊥) (λ w. Coloured n c a (vec w))

-- w is the first colouring by the order of nodes
pub record First (n : ℕ) (c : List (List Bool)) (a : ℕ) (w : ℕ → ℕ) : Type 0 where
  pub coloured : Coloured n c a w
  pub first : (x : ℕ → ℕ) → Coloured n c a x → Before n w x

-- the first colouring, or that there is none
abbrev pub FirstColouring : ℕ → List (List Bool) → ℕ → Option (List ℕ) → Type 0
FirstColouring n c a found = MatchOption found ((x : ℕ → ℕ) → Coloured n c a x → ⊥) (λ w. First n c a (vec w))
