-- What the functions of src/ give: a start after an edge, the starts after a round, whether every edge is met, the
-- settled starts.
use Rattle.std.specs.Prelude.{◌≡◌, Bool, true, false, ◌⊎◌, List, ℕ, ◌+◌, ◌*◌, ◌≤◌, ◌<◌, ℤ, pos, ◌+ℤ◌, ◌≤ℤ◌, ◌<ℤ◌, length}
use Rattle.sizes.specs.Sizes.{most_operations}
use Rattle.net.specs.Small.{most_weight, lowest_weight, highest_weight}
use Rattle.net.specs.Walk.{Web, Walk, sum_of}
use Rattle.net.specs.Meaning.{Meets, Earliest}
use Rattle.net.specs.Net.{Below, highest_start, highest_pushed}
use Rattle.laws.specs.Entry.{vec}

-- two starts and a weight between them: an `i32` holds what is added and compared
pub record Addable (from : ℕ) (weight : ℤ) (to : ℕ) : Type 0 where
  pub from_ok : from ≤ highest_pushed
  pub to_ok : to ≤ highest_pushed
  pub low : lowest_weight ≤ℤ weight
  pub high : weight ≤ℤ highest_weight

-- r is the greater of the start `to` and the start `from` plus the weight
pub record Pushed (from : ℕ) (weight : ℤ) (to r : ℕ) : Type 0 where
  pub keeps : to ≤ r
  pub takes : (pos from +ℤ weight) ≤ℤ pos r
  pub real : (r ≡ to) ⊎ (pos r ≡ pos from +ℤ weight)

-- z is the floor of an operation and a walk from it
pub record Real (g : Web) (f : ℕ → ℕ) (v z : ℕ) : Type 0 where
  pub u : ℕ
  pub walk : List ℕ
  pub is : Walk g u v walk
  pub same : pos z ≡ pos (f u) +ℤ sum_of g walk

-- r is t after the edges below e
pub record Part (g : Web) (t r : List ℕ) (e : ℕ) : Type 0 where
  pub long : length r ≡ most_operations
  pub keeps : (v : ℕ) → v < most_operations → vec t v ≤ vec r v
  pub takes : (x : ℕ) → x < e → (pos (vec t (g.from x)) +ℤ g.weight x) ≤ℤ pos (vec r (g.to x))
  pub real : (f : ℕ → ℕ) → ((v : ℕ) → v < most_operations → Real g f v (vec t v)) → (v : ℕ) → v < most_operations → Real g f v (vec r v)
  pub grows : (b : ℕ) → Below b t → Below (b + most_weight * e) r

-- whether every edge is met
pub record AllMet (g : Web) (t : List ℕ) (r : Bool) : Type 0 where
  pub yes : r ≡ true → Meets g (λ v. pos (vec t v))
  pub no : r ≡ false → (e : ℕ) × (e < g.count) × (pos (vec t (g.to e)) <ℤ (pos (vec t (g.from e)) +ℤ g.weight e))

-- the starts that a floor settles at: the earliest, and the floor past the operations
pub record Settled (g : Web) (f t : List ℕ) : Type 0 where
  pub earliest : Earliest g (vec f) (vec t)
  pub past : (v : ℕ) → g.ops ≤ v → v < most_operations → vec t v ≡ vec f v
  pub few : Below highest_start t
