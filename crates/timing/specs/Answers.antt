-- What the timing services answer of a sheet: their questions in order, then the whole answer with what makes it right.
use Rattle.std.specs.Prelude.{◌≡◌, List, ℕ, ◌≤◌, ℤ}
use Rattle.laws.specs.Entry.{zeros, vec, ZeroFrom}
use Rattle.dependence.specs.Rules.{Earliest}
use Rattle.dependence.specs.Answer.{zero_table, Separations}
use Rattle.constraints.specs.declared.loops.BadWalk as loops
use Rattle.constraints.specs.declared.starts.Starts as starts
use Rattle.constraints.specs.declared.bound.Bound as bounds
use Rattle.sheet.specs.declared.Sheet.{Sheet}
use Rattle.sheet.specs.Sheet.{Interval, op_at, graph_of}
use Rattle.sheet.specs.Questions.{Asked, Is, OnSheet, AtInterval}
use Rattle.sheet.specs.Loop.{Feasible, IfFeasible}

-- ---- question 5 by itself

-- an answer number with no edges beside it: a refusal other than 5, or 0 where no closed walk is bad
abbrev pub without_loop : ℕ → loops.BadWalk
without_loop n = record { answer = n; loop_length = 0; loop_edges = zeros }

-- 5 with these edges
abbrev pub with_loop : ℕ → List ℕ → loops.BadWalk
with_loop n es = record { answer = 5; loop_length = n; loop_edges = es }

-- the sheet's questions, 4 and 5
abbrev pub WalkAt : Sheet → ℕ → loops.BadWalk → Type 0
WalkAt s L = AtInterval without_loop s L (IfFeasible with_loop s L (Is (without_loop 0)))

-- ---- earliest starts

-- the number of a refusal, and 0 for every other number
abbrev pub starts_refused : ℕ → starts.Starts
starts_refused n = record { answer = n; starts = zeros; loop_length = 0; loop_edges = zeros }

-- 5 with these edges
abbrev pub starts_loop : ℕ → List ℕ → starts.Starts
starts_loop n es = record { answer = 5; starts = zeros; loop_length = n; loop_edges = es }

-- 0 with these starts
abbrev pub starts_given : List ℕ → starts.Starts
starts_given ts = record { answer = 0; starts = ts; loop_length = 0; loop_edges = zeros }

-- 0 with the earliest starts, each at least its lo, and 0 past the operations
pub record EarliestIn (s : Sheet) (L : ℕ) (a : starts.Starts) : Type 0 where
  pub starts : List ℕ
  pub earliest : Earliest (graph_of s) L (λ i. (op_at s i).lo) (vec starts)
  pub rest : ZeroFrom s.op_count starts
  pub pinned : a ≡ starts_given starts

-- the sheet's questions, 4 and 5, then the earliest starts; the horizon and every hi play no part
abbrev pub StartsAt : Sheet → ℕ → starts.Starts → Type 0
StartsAt s L = AtInterval starts_refused s L (IfFeasible starts_loop s L (EarliestIn s L))

-- ---- separations

-- a refused table has 0 in every cell; the number of the refusal is that of `WalkAt`, and `Unique.separations_answered`
-- ties the table to it
abbrev pub table_refused : ℕ → List (List ℤ)
table_refused n = zero_table

-- question 5, then the separations
abbrev pub IfSeparations : Sheet → ℕ → List (List ℤ) → Type 0
IfSeparations s L = Asked (Feasible s L) (Is (table_refused 5)) (Separations (graph_of s) L)

-- the sheet's questions, 4 and 5, then the separations
abbrev pub SeparationsAt : Sheet → ℕ → List (List ℤ) → Type 0
SeparationsAt s L = AtInterval table_refused s L (IfSeparations s L)

-- ---- the recurrence bound

-- the number of a refusal, and 0 for the bound
abbrev pub bound_refused : ℕ → bounds.Bound
bound_refused n = record { answer = n; value = 0 }

-- question 8: some interval in 1 to M has no bad closed walk
pub record SomeFeasible (s : Sheet) : Type 0 where
  pub at : ℕ
  pub interval : Interval s at
  pub feasible : Feasible s at

-- 0 with the least of them
pub record LeastFeasible (s : Sheet) (a : bounds.Bound) : Type 0 where
  pub at : ℕ
  pub interval : Interval s at
  pub feasible : Feasible s at
  pub least : (L : ℕ) → Interval s L → Feasible s L → at ≤ L
  pub pinned : a ≡ record { answer = 0; value = at }

-- question 8, then the least interval without a bad closed walk
abbrev pub IfSomeFeasible : Sheet → bounds.Bound → Type 0
IfSomeFeasible s = Asked (SomeFeasible s) (Is (bound_refused 8)) (LeastFeasible s)

-- the sheet's questions and 8, then the recurrence bound
abbrev pub RecurrenceAt : Sheet → bounds.Bound → Type 0
RecurrenceAt s = OnSheet bound_refused s (IfSomeFeasible s)
