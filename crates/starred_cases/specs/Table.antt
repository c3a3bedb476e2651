-- The starred cases of document 01: one table of claims about the rules. The sheets are as a reader gives them, with 0
-- past their counts.
use Rattle.std.specs.Prelude.{List, [], ◌∷◌, map, ℕ, ◌-◌, ℤ, pos, negsuc}
use Rattle.dependence.specs.declared.Edge.{Edge}
use Rattle.sheet.specs.declared.Sheet.{Sheet}
use Rattle.sheet.specs.declared.Operation.{Operation}
use Rattle.sheet.specs.declared.ResourceType.{ResourceType}
use Rattle.reader.specs.Read.{sheet_of}
use Rattle.starred_cases.specs.Claims.{Claim, refuses_outside, refuses_walk, always_refuses_walk, refuses_plan, always_refuses_plan, gives, always_gives, least_is, least_refused, recurrence_is, recurrence_refused, resource_is, pair_out, pair_in}

-- a instances, latency d; an operation holds its instance for one slot: K is 1
abbrev type : ℕ → ℕ → ResourceType
type a d = record { instances = a; latency = d; busy = 1 }

-- of type r, with the window of the whole horizon: lo is 0, hi is H − 1
abbrev op : ℕ → ℕ → Operation
op horizon r = record { resource = r; lo = 0; hi = horizon - 1 }

abbrev edge : ℕ → ℕ → ℤ → ℕ → Edge
edge i j d b = record { from = i; to = j; delay = d; distance = b }

-- the sheet with operations of these types
abbrev plain : ℕ → ℕ → List ResourceType → List ℕ → List Edge → Sheet
plain horizon cap types kinds edges = sheet_of horizon cap types (map (op horizon) kinds) edges

-- case A, and B with another horizon
abbrev ring : ℕ → Sheet
ring horizon = plain horizon 4 (type 1 1 ∷ type 0 1 ∷ []) (0 ∷ 1 ∷ 0 ∷ []) (edge 0 1 (pos 0) 0 ∷ edge 1 2 (pos 0) 0 ∷ edge 2 0 (pos 0) 2 ∷ [])

-- two operations of one type, held exactly four clocks apart
abbrev apart : Sheet
apart = plain 5 5 (type 1 1 ∷ []) (0 ∷ 0 ∷ []) (edge 0 1 (pos 3) 0 ∷ edge 1 0 (negsuc 4) 0 ∷ [])

-- one operation of latency d that depends on itself
abbrev itself : ℕ → Sheet
itself d = plain 4 64 (type 1 d ∷ []) (0 ∷ []) (edge 0 0 (pos 0) 0 ∷ [])

-- three operations of a type with two instances
abbrev three : ℕ → Sheet
three horizon = plain horizon 2 (type 2 1 ∷ []) (0 ∷ 0 ∷ 0 ∷ []) []

-- one operation of latency 2
abbrev alone : ℕ → Sheet
alone horizon = plain horizon 64 (type 1 2 ∷ []) (0 ∷ []) []

-- the claims of the starred cases in the order of 01, as the requests of 02 leave them; of case A also the answer at
-- each interval that leastplan prints
abbrev pub table : List Claim
table =
    recurrence_is (ring 3) 2 (0 ∷ 1 ∷ 2 ∷ []) (0 ∷ 1 ∷ 2 ∷ []) ∷
    resource_is (ring 3) 2 ∷
    least_is (ring 3) 3 (0 ∷ 1 ∷ 2 ∷ []) (0 ∷ 0 ∷ 0 ∷ []) ∷
    refuses_walk (ring 3) 1 (0 ∷ 1 ∷ 2 ∷ []) ∷
    refuses_plan (ring 3) 2 (0 ∷ 1 ∷ 2 ∷ []) ∷
    gives (ring 3) 3 (0 ∷ 1 ∷ 2 ∷ []) (0 ∷ 0 ∷ 0 ∷ []) ∷
    gives (ring 4) 2 (0 ∷ 1 ∷ 3 ∷ []) (0 ∷ 0 ∷ 0 ∷ []) ∷
    refuses_plan apart 1 (0 ∷ 4 ∷ []) ∷
    refuses_plan apart 2 (0 ∷ 4 ∷ []) ∷
    gives apart 3 (0 ∷ 4 ∷ []) (0 ∷ 0 ∷ []) ∷
    refuses_plan apart 4 (0 ∷ 4 ∷ []) ∷
    gives apart 5 (0 ∷ 4 ∷ []) (0 ∷ 0 ∷ []) ∷
    always_refuses_walk (itself 1) (0 ∷ []) ∷
    least_refused (itself 1) ∷
    recurrence_refused (itself 1) (0 ∷ []) ∷
    always_gives (itself 0) (0 ∷ []) (0 ∷ []) ∷
    refuses_plan (three 1) 1 (0 ∷ 0 ∷ 0 ∷ []) ∷
    gives (three 2) 2 (0 ∷ 0 ∷ 1 ∷ []) (0 ∷ 1 ∷ 0 ∷ []) ∷
    always_refuses_plan (alone 1) (0 ∷ []) ∷
    least_refused (alone 1) ∷
    always_gives (alone 2) (0 ∷ []) (0 ∷ []) ∷
    refuses_outside ∷
    pair_out (alone 2) 1 (0 ∷ []) (0 ∷ []) 0 ∷
    pair_in 24 275 ∷
    []
