-- What reading a sheet gives, for every byte string: 1, then line by line 2, 3 and 16 in that order, or the sheet.
use Rattle.std.specs.Prelude.{ℕ, List, [], ◌∷◌, cond, ltb, length, drop}
use Rattle.sizes.specs.Sizes.{most_types, most_operations, most_edges}
use Rattle.dependence.specs.declared.Edge.{Edge}
use Rattle.dependence.specs.Graph.{no_edge}
use Rattle.sheet.specs.declared.Sheet.{Sheet}
use Rattle.sheet.specs.declared.Operation.{Operation}
use Rattle.sheet.specs.declared.ResourceType.{ResourceType}
use Rattle.sheet.specs.Sheet.{no_type, no_operation}
use Rattle.reader.specs.declared.ReadAnswer.{ReadAnswer}
use Rattle.sheet_lines.specs.Found.{Found, found, refused, and_then, line_from, section_from, padded}
use Rattle.sheet_lines.specs.Kinds.{horizon_kind, cap_kind, types_kind, ops_kind, edges_kind, type_kind, op_kind, edge_kind}

-- the sheet with these numbers, and 0 past the types, operations and edges
abbrev pub sheet_of : ℕ → ℕ → List ResourceType → List Operation → List Edge → Sheet
sheet_of horizon cap types ops edges = record {
  horizon = horizon;
  cap = cap;
  type_count = length types;
  types = padded most_types no_type types;
  op_count = length ops;
  ops = padded most_operations no_operation ops;
  edge_count = length edges;
  edges = padded most_edges no_edge edges;
}

-- the lines in their order
unfoldable pub sheet_from : List ℕ → Found Sheet
sheet_from bs =
    and_then (line_from horizon_kind bs) (λ horizon bs.
    and_then (line_from cap_kind bs) (λ cap bs.
    and_then (section_from types_kind type_kind bs) (λ types bs.
    and_then (section_from ops_kind (op_kind (length types) horizon) bs) (λ ops bs.
    and_then (section_from edges_kind (edge_kind (length ops)) bs) (λ edges bs.
    found (sheet_of horizon cap types ops edges) bs)))))

-- nothing follows the last line, else 2
abbrev pub to_the_end : Found Sheet → Found Sheet
to_the_end (found s []) = found s []
to_the_end (found s (b ∷ bs)) = refused 2 (b ∷ bs)
to_the_end (refused n bs) = refused n bs

-- bytes of a sheet
abbrev pub longest_sheet : ℕ
longest_sheet = 4096

-- all the bytes: question 1, whether they are not too many, comes before any line
unfoldable pub whole_from : List ℕ → Found Sheet
whole_from bs = cond (ltb longest_sheet (length bs)) (refused 1 (drop longest_sheet bs)) (to_the_end (sheet_from bs))

-- a sheet whose numbers are all 0
abbrev pub no_sheet : Sheet
no_sheet = sheet_of 0 0 [] [] []

-- with a refusal every other number is 0
abbrev pub refusal : ℕ → ReadAnswer
refusal n = record { answer = n; sheet = no_sheet }

-- every question got a yes: 0 and the sheet
abbrev pub accepted : Sheet → ReadAnswer
accepted s = record { answer = 0; sheet = s }

-- the sheet that was found, or the number of the refusal
abbrev pub answered : Found Sheet → ReadAnswer
answered (found s rest) = accepted s
answered (refused n rest) = refusal n

-- the answer to reading these bytes
unfoldable pub read_of : List ℕ → ReadAnswer
read_of bs = answered (whole_from bs)
