-- What the code has at a place of the bytes s, as the definitions see it. The contracts of the reader's inner functions
-- cite these.
use Rattle.std.specs.Prelude.{ℕ, ◌≤◌, ◌≡◌, List, length, drop, take}
use Rattle.sheet_lines.specs.Found.{Found, judged, padded}

-- the answer and, where it is 0, what was found and the place after it; else the place of what is refused
unfoldable pub seen : {A : Type 0} → List ℕ → ℕ → A → ℕ → Found A
seen s answer a next = judged answer a (drop next s) (drop next s)

-- what the code has is what the definition `want` finds, and its place lies within the bytes
pub record Reads {A : Type 0} (s : List ℕ) (answer : ℕ) (a : A) (next : ℕ) (want : Found A) : Type 0 where
  pub same : seen s answer a next ≡ want
  pub within : next ≤ length s

-- an array that holds count entries, and d past them
pub record Filled {A : Type 0} (size : ℕ) (d : A) (count : ℕ) (array : List A) : Type 0 where
  pub long : length array ≡ size
  pub few : count ≤ size
  pub rest : array ≡ padded size d (take count array)

-- a refusal at a place, with nothing beside it
pub record Refuses {A : Type 0} (n at size : ℕ) (d : A) (answer count : ℕ) (array : List A) (next : ℕ) : Type 0 where
  pub answered : answer ≡ n
  pub there : next ≡ at
  pub empty : Filled size d count array

-- the entries of a section that were read
abbrev pub Entries : {A : Type 0} → ℕ → A → List ℕ → ℕ → ℕ → List A → ℕ → Found (List A) → Type 0
Entries size d s answer count array next want = Reads s answer (take count array) next want × Filled size d count array
