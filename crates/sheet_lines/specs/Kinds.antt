-- The kinds of line of a sheet.
use Rattle.std.specs.Prelude.{ℕ, List, [], ◌∷◌, ℤ, pos, nat_abs, get_or}
use Rattle.text.specs.Keys as key
use Rattle.dependence.specs.declared.Edge.{Edge}
use Rattle.sheet.specs.declared.Operation.{Operation}
use Rattle.sheet.specs.declared.ResourceType.{ResourceType}
use Rattle.sheet.specs.Ranges as range
use Rattle.sheet.specs.Answer.{number_answer, type_answer, op_answer, edge_answer}
use Rattle.sheet.specs.Text.{type_line, op_line, edge_line}
use Rattle.scan.specs.Line.{no_minus}
use Rattle.sheet_lines.specs.Found.{Kind}

-- a line's number at a place, 0 past its numbers
abbrev pub value_at : List ℤ → ℕ → ℤ
value_at vs i = get_or vs i (pos 0)

-- the same where it carries no minus
abbrev pub nat_at : List ℤ → ℕ → ℕ
nat_at vs i = nat_abs (value_at vs i)

-- one number, in the range of a field
abbrev pub number_kind : List ℕ → ℕ → Kind ℕ
number_kind k field = record {
  key = k;
  count = 1;
  minus = no_minus;
  make = λ vs. nat_at vs 0;
  values = λ n. pos n ∷ [];
  answer = number_answer field;
}

-- `horizon=H`
abbrev pub horizon_kind : Kind ℕ
horizon_kind = number_kind key.horizon_key range.horizon

-- `cap=M`
abbrev pub cap_kind : Kind ℕ
cap_kind = number_kind key.cap_key range.cap

-- `types=R`
abbrev pub types_kind : Kind ℕ
types_kind = number_kind key.types_key range.types

-- `ops=N`
abbrev pub ops_kind : Kind ℕ
ops_kind = number_kind key.ops_key range.operations

-- `edges=E`
abbrev pub edges_kind : Kind ℕ
edges_kind = number_kind key.edges_key range.edges

-- `type=A,D,K`
abbrev pub type_kind : Kind ResourceType
type_kind = record {
  key = key.type_key;
  count = 3;
  minus = no_minus;
  make = λ vs. record { instances = nat_at vs 0; latency = nat_at vs 1; busy = nat_at vs 2 };
  values = λ t. (type_line t).values;
  answer = type_answer;
}

-- `op=r,lo,hi`, where r is below the count of types, lo and hi below the horizon, and lo is at most hi
abbrev pub op_kind : ℕ → ℕ → Kind Operation
op_kind types horizon = record {
  key = key.op_key;
  count = 3;
  minus = no_minus;
  make = λ vs. record { resource = nat_at vs 0; lo = nat_at vs 1; hi = nat_at vs 2 };
  values = λ o. (op_line o).values;
  answer = op_answer types horizon;
}

-- `edge=i,j,d,b`, where i and j are below the count of operations; d may carry a minus
abbrev pub edge_kind : ℕ → Kind Edge
edge_kind ops = record {
  key = key.edge_key;
  count = 4;
  minus = 2;
  make = λ vs. record { from = nat_at vs 0; to = nat_at vs 1; delay = value_at vs 2; distance = nat_at vs 3 };
  values = λ e. (edge_line e).values;
  answer = edge_answer ops;
}
