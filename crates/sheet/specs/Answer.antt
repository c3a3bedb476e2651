-- What the numbers of a line answer, and those of a whole sheet: 0, or the number of the first question that gets a no.
-- The lines are gone through in their order. A reader and a sheet handed in as numbers are judged by these.
use Rattle.std.specs.Prelude.{ℕ, zero, suc, pos}
use Rattle.dependence.specs.declared.Edge.{Edge}
use Rattle.sheet.specs.declared.Sheet.{Sheet}
use Rattle.sheet.specs.declared.Operation.{Operation}
use Rattle.sheet.specs.declared.ResourceType.{ResourceType}
use Rattle.sheet.specs.Ranges as range
use Rattle.sheet.specs.Sheet.{type_at, op_at, edge_at}
use Rattle.sheet.specs.Decide.{inside_decided, type_decided, op_decided, window_decided, edge_decided}

-- a question: its number at a no, and what follows at a yes
abbrev pub ask : {P : Type 0} → Dec P → ℕ → ℕ → ℕ
ask (yes p) number rest = rest
ask (no n) number rest = number

-- the first of two answers that is not 0
abbrev pub first : ℕ → ℕ → ℕ
first zero b = b
first (suc a) b = suc a

-- the first of n answers that is not 0
unfoldable pub first_of : ℕ → (ℕ → ℕ) → ℕ
first_of zero f = 0
first_of (suc n) f = first (first_of n f) (f n)

-- ---- one line

-- a line with one number, of this field
unfoldable pub number_answer : ℕ → ℕ → ℕ
number_answer field n = ask (inside_decided field (pos n)) 3 0

-- `type=A,D,K`
unfoldable pub type_answer : ResourceType → ℕ
type_answer t = ask (type_decided t) 3 0

-- `op=r,lo,hi`, with R types and the horizon H
unfoldable pub op_answer : ℕ → ℕ → Operation → ℕ
op_answer types horizon o = ask (op_decided types horizon o) 3 (ask (window_decided o) 16 0)

-- `edge=i,j,d,b`, with N operations
unfoldable pub edge_answer : ℕ → Edge → ℕ
edge_answer ops e = ask (edge_decided ops e) 3 0

-- ---- the lines of a sheet in their order; entries past the counts have none

-- `types=R`, then R lines
abbrev pub types_answer : Sheet → ℕ
types_answer s = first (number_answer range.types s.type_count) (first_of s.type_count (λ r. type_answer (type_at s r)))

-- `ops=N`, then N lines
abbrev pub ops_answer : Sheet → ℕ
ops_answer s = first (number_answer range.operations s.op_count) (first_of s.op_count (λ i. op_answer s.type_count s.horizon (op_at s i)))

-- `edges=E`, then E lines
abbrev pub edges_answer : Sheet → ℕ
edges_answer s = first (number_answer range.edges s.edge_count) (first_of s.edge_count (λ k. edge_answer s.op_count (edge_at s k)))

-- the whole sheet: the first line that refuses answers for it
unfoldable pub sheet_answer : Sheet → ℕ
sheet_answer s =
    first (number_answer range.horizon s.horizon) (
    first (number_answer range.cap s.cap) (
    first (types_answer s) (
    first (ops_answer s)
    (edges_answer s))))
