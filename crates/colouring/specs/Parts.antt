-- What the functions of the search for a colouring answer.
use Rattle.std.specs.Prelude.{◌≡◌, Bool, true, false, List, ℕ, ◌+◌, ◌≤◌, ◌<◌, Option, MatchOption, IfSome}
use Rattle.sizes.specs.Sizes.{most_instances}
use Rattle.laws.specs.Entry.{vec}
use Rattle.laws.specs.Says.{Says}
use Rattle.domain.specs.Domain.{has, row_of}
use Rattle.colouring.specs.Graph.{joins, Graph, Extends, First}

-- no coloured neighbour of node k has the colour v
pub record Clear (n : ℕ) (c : List (List Bool)) (done : List Bool) (u : List ℕ) (k v : ℕ) : Type 0 where
  pub clear : (j : ℕ) → j < n → has done j ≡ true → joins c j k ≡ true → vec u j ≡ v → ⊥

-- the colours that are clear for node k
pub record ClearRow (n : ℕ) (c : List (List Bool)) (done : List Bool) (u : List ℕ) (k : ℕ) (row : List Bool) : Type 0 where
  pub colour : (v : ℕ) → v < most_instances → Says (Clear n c done u k v) (has row v)

-- the colours that are clear for each node
pub record ClearTable (n : ℕ) (c : List (List Bool)) (done : List Bool) (u : List ℕ) (f : List (List Bool)) : Type 0 where
  pub node : (k : ℕ) → k < n → ClearRow n c done u k (row_of f k)

-- a node that has no colour, or that all have
abbrev pub OpenNode : ℕ → List Bool → Option ℕ → Type 0
OpenNode n done r = MatchOption r ((i : ℕ) → i < n → has done i ≡ true) (λ i. (i < n) × (has done i ≡ false))

-- where r is true, the colours v and w are clear for the same nodes among those that have no colour
pub record SameColumn (n : ℕ) (done : List Bool) (f : List (List Bool)) (v w : ℕ) (r : Bool) : Type 0 where
  pub yes : r ≡ true → (k : ℕ) → k < n → has done k ≡ false → has (row_of f k) v ≡ has (row_of f k) w

-- where r is true, some colour below v is clear for the same nodes as v
pub record Twin (n : ℕ) (done : List Bool) (f : List (List Bool)) (v : ℕ) (r : Bool) : Type 0 where
  pub yes : r ≡ true → (w : ℕ) × (w < v) × SameColumn n done f v w true

-- every colouring over u gives node i at least the colour v
pub record Left (n : ℕ) (c : List (List Bool)) (a : ℕ) (done : List Bool) (u : List ℕ) (i v : ℕ) : Type 0 where
  pub left : (w : ℕ → ℕ) → Extends n c a done u w → v ≤ w i

-- whether the colour v is worth a try at node i: then it is clear, else no colouring needs it; f has the clear colours, of
-- whatever graph and colours it may be
pub record Worth (n : ℕ) (done : List Bool) (f : List (List Bool)) (i v : ℕ) (r : Bool) : Type 0 where
  pub clear : r ≡ true → (c : List (List Bool)) (u : List ℕ) → ClearTable n c done u f → Clear n c done u i v
  pub skip : r ≡ false → (c : List (List Bool)) (u : List ℕ) (a : ℕ) → v < a → a ≤ most_instances → Graph n c → ClearTable n c done u f
      → Left n c a done u i v → Left n c a done u i (v + 1)

-- a colouring over u whose colour of i is least
pub record LeastAt (n : ℕ) (c : List (List Bool)) (a : ℕ) (done : List Bool) (u : List ℕ) (i : ℕ) (w : List ℕ) : Type 0 where
  pub extends : Extends n c a done u (vec w)
  pub least : Left n c a done u i (vec w i)

-- the lowest of a colours that is clear for k, or that none is
abbrev pub Lowest : ℕ → List (List Bool) → List Bool → List ℕ → ℕ → ℕ → Option ℕ → Type 0
Lowest n c done u k a r = MatchOption r
    ((v : ℕ) → v < a → Clear n c done u k v → ⊥)
    (λ v. (v < a) × Clear n c done u k v × ((w : ℕ) → w < v → Clear n c done u k w → ⊥))

-- the first colouring, or no answer
abbrev pub Tried : ℕ → List (List Bool) → ℕ → Option (List ℕ) → Type 0
Tried n c a found = IfSome found (λ w. First n c a (vec w))
