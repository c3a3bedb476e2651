-- The whole sheet, section by section: where reading stops, and what it gives when nothing stops it.
-- Assumes nothing.
use Rattle.std.specs.Prelude.{◌≡◌, List, [], ◌∷◌, ℕ, ◌≤◌, ◌<◌, length, take, drop}
use Rattle.std.proofs.Common.{sym, ap, subst, ◌∙◌, arith, length-take-le, lt-ltb, le-ltb}
use Rattle.sizes.specs.Sizes.{most_types, most_operations, most_edges}
use Rattle.dependence.specs.declared.Edge.{Edge}
use Rattle.dependence.specs.Graph.{no_edge}
use Rattle.sheet.specs.declared.Operation.{Operation}
use Rattle.sheet.specs.declared.ResourceType.{ResourceType}
use Rattle.sheet.specs.Sheet.{no_type, no_operation}
use Rattle.sheet.specs.declared.Sheet.{Sheet}
use Rattle.reader.specs.declared.ReadAnswer.{ReadAnswer}
use Rattle.reader.specs.declared.SheetRead.{SheetRead}
use Rattle.sheet_lines.specs.Found.{Found, found, refused, line_from, section_from}
use Rattle.sheet_lines.specs.Seen.{Reads, Filled}
use Rattle.sheet_lines.specs.Kinds.{horizon_kind, cap_kind, types_kind, ops_kind, edges_kind, type_kind, op_kind, edge_kind}
use Rattle.reader.specs.Read.{longest_sheet, sheet_of, sheet_from, whole_from, no_sheet, answered, read_of}
use Rattle.sheet_lines.specs.Steps.{seen_zero, seen_other}

-- what was read of all the bytes: its answer and sheet are what reading gives
pub record WholeRead (s : List ℕ) (r : SheetRead) : Type 0 where
  pub reads : Reads s r.answer r.sheet r.next (whole_from s)
  pub gives : ◌≡◌ {A = ReadAnswer} (record { answer = r.answer; sheet = r.sheet }) (read_of s)

pub too_long : (bs : List ℕ) → longest_sheet < length bs → whole_from bs ≡ refused 1 (drop longest_sheet bs)
unfolding whole_from
too_long bs h = rw (lt-ltb longest_sheet (length bs) h)

module _ (bs : List ℕ) (h : length bs ≤ longest_sheet) where
  pub stops_horizon : (n : ℕ) (b : List ℕ) → line_from horizon_kind bs ≡ refused n b → whole_from bs ≡ refused n b
  unfolding whole_from sheet_from
  stops_horizon n b e = rw (le-ltb longest_sheet (length bs) h, e)

  module _ (horizon : ℕ) (b₁ : List ℕ) (e₁ : line_from horizon_kind bs ≡ found horizon b₁) where
    pub stops_cap : (n : ℕ) (b : List ℕ) → line_from cap_kind b₁ ≡ refused n b → whole_from bs ≡ refused n b
    unfolding whole_from sheet_from
    stops_cap n b e = rw (le-ltb longest_sheet (length bs) h, e₁, e)

    module _ (cap : ℕ) (b₂ : List ℕ) (e₂ : line_from cap_kind b₁ ≡ found cap b₂) where
      pub stops_types : (n : ℕ) (b : List ℕ) → section_from types_kind type_kind b₂ ≡ refused n b → whole_from bs ≡ refused n b
      unfolding whole_from sheet_from
      stops_types n b e = rw (le-ltb longest_sheet (length bs) h, e₁, e₂, e)

      module _ (types : List ResourceType) (b₃ : List ℕ) (e₃ : section_from types_kind type_kind b₂ ≡ found types b₃) (r : ℕ) (q : length types ≡ r) where
        pub stops_ops : (n : ℕ) (b : List ℕ) → section_from ops_kind (op_kind r horizon) b₃ ≡ refused n b → whole_from bs ≡ refused n b
        unfolding whole_from sheet_from
        stops_ops n b e = rw (le-ltb longest_sheet (length bs) h, e₁, e₂, e₃, q, e)

        module _ (ops : List Operation) (b₄ : List ℕ) (e₄ : section_from ops_kind (op_kind r horizon) b₃ ≡ found ops b₄) (m : ℕ) (p : length ops ≡ m) where
          pub stops_edges : (n : ℕ) (b : List ℕ) → section_from edges_kind (edge_kind m) b₄ ≡ refused n b → whole_from bs ≡ refused n b
          unfolding whole_from sheet_from
          stops_edges n b e = rw (le-ltb longest_sheet (length bs) h, e₁, e₂, e₃, q, e₄, p, e)

          module _ (edges : List Edge) (b₅ : List ℕ) (e₅ : section_from edges_kind (edge_kind m) b₄ ≡ found edges b₅) where
            pub whole : b₅ ≡ [] → whole_from bs ≡ found (sheet_of horizon cap types ops edges) b₅
            unfolding whole_from sheet_from
            whole z = rw (le-ltb longest_sheet (length bs) h, e₁, e₂, e₃, q, e₄, p, e₅, z)

            pub something_more : (x : ℕ) (xs : List ℕ) → b₅ ≡ x ∷ xs → whole_from bs ≡ refused 2 b₅
            unfolding whole_from sheet_from
            something_more x xs z = rw (le-ltb longest_sheet (length bs) h, e₁, e₂, e₃, q, e₄, p, e₅, z)

-- an array holds as many entries as it says
pub filled_length : {A : Type 0} {size : ℕ} {d : A} {n : ℕ} {es : List A} → Filled size d n es → length (take n es) ≡ n
filled_length {n = n} {es = es} f = length-take-le n es (omega (arith, f.long, f.few))

-- ---- what the code gives

-- what is found says what reading gives
pub read_of_lem : (bs : List ℕ) {x : Found Sheet} → whole_from bs ≡ x → read_of bs ≡ answered x
unfolding read_of
read_of_lem bs e = ap answered e

-- a refusal at a place
abbrev pub refused_at : ℕ → ℕ → SheetRead
refused_at n at = record { answer = n; sheet = no_sheet; next = at }

pub whole_refused : {s : List ℕ} {n at : ℕ} {r : SheetRead} → r ≡ refused_at n at → (n ≡ 0 → ⊥) → whole_from s ≡ refused n (drop at s) → at ≤ length s → WholeRead s r
whole_refused {s} {n} {at} e h w l = subst (WholeRead s) (sym e) (record {
  reads = record { same = seen_other s n no_sheet at h ∙ sym w; within = l };
  gives = sym (read_of_lem s w);
})

-- the sheet that has these numbers and arrays, and the place after it
abbrev pub as_read : ℕ → ℕ → ℕ → ℕ → ℕ → List ResourceType → List Operation → List Edge → ℕ → SheetRead
as_read horizon cap r n e types ops edges next = record {
  answer = 0;
  sheet = record { horizon = horizon; cap = cap; type_count = r; types = types; op_count = n; ops = ops; edge_count = e; edges = edges };
  next = next;
}

-- the sheet as the code makes it
made : (horizon cap t o e next : ℕ) (types : List ResourceType) (ops : List Operation) (edges : List Edge)
    → Filled most_types no_type t types → Filled most_operations no_operation o ops → Filled most_edges no_edge e edges
    → as_read horizon cap t o e types ops edges next ≡ record { answer = 0; sheet = sheet_of horizon cap (take t types) (take o ops) (take e edges); next = next }
made horizon cap t o e next types ops edges ft fo fe = λ i. record {
  answer = 0;
  sheet = record {
    horizon = horizon;
    cap = cap;
    type_count = sym (filled_length ft) i;
    types = ft.rest i;
    op_count = sym (filled_length fo) i;
    ops = fo.rest i;
    edge_count = sym (filled_length fe) i;
    edges = fe.rest i;
  };
  next = next;
}

pub whole_found : {s : List ℕ} {horizon cap t o e next : ℕ} {types : List ResourceType} {ops : List Operation} {edges : List Edge} {r : SheetRead}
    → r ≡ as_read horizon cap t o e types ops edges next
    → Filled most_types no_type t types → Filled most_operations no_operation o ops → Filled most_edges no_edge e edges
    → whole_from s ≡ found (sheet_of horizon cap (take t types) (take o ops) (take e edges)) (drop next s) → next ≤ length s → WholeRead s r
whole_found {s} {next = next} q ft fo fe w l = subst (WholeRead s) (sym (q ∙ made _ _ _ _ _ _ _ _ _ ft fo fe)) (record {
  reads = record { same = seen_zero s _ next ∙ sym w; within = l };
  gives = sym (read_of_lem s w);
})
