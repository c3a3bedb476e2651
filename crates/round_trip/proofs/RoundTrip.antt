-- A byte string is accepted exactly when it is the text of a sheet in range. Writing what was read yields its own
-- bytes, and a written sheet is read as itself, with 0 past the counts. Every text fits the bytes of a sheet.
-- Assumes nothing.
use Rattle.std.specs.Prelude.{◌≡◌, refl, List, [], ◌∷◌, ◌++◌, map, ℕ, ◌*◌, ◌-◌, ◌<◌, ◌≤◌, ltb, length, take, get_or, replicate}
use Rattle.std.proofs.Common.{sym, ap, subst, ◌∙◌, append-nil, arith, length-append, length-take-le, ltb-true, ltb-false}
use Rattle.std.proofs.lemmas.List.{length-replicate}
use Rattle.std.proofs.Math.ListN.{get_or-append}
use Rattle.std.proofs.Math.Seq.{take-append_seam}
use Rattle.sizes.specs.Sizes.{most_starts, most_types, most_operations, most_edges}
use Rattle.text.specs.Lines.{lines_text, count_line}
use Rattle.text.specs.Filling.{lines_append}
use Rattle.text.specs.Keys as key
use Rattle.dependence.specs.declared.Edge.{Edge}
use Rattle.dependence.specs.Graph.{no_edge}
use Rattle.laws.specs.Tests.{by_test}
use Rattle.sheet.specs.declared.Sheet.{Sheet}
use Rattle.sheet.specs.declared.Operation.{Operation}
use Rattle.sheet.specs.declared.ResourceType.{ResourceType}
use Rattle.sheet.specs.Facts.{most}
use Rattle.sheet.specs.Ranges as range
use Rattle.sheet.specs.Sheet.{no_type, no_operation, TypeInRange, OpInRange, NonEmptyWindow, EdgeInRange, InRange, Arrays}
use Rattle.sheet.specs.Text.{type_line, op_line, edge_line, sheet_lines, sheet_text}
use Rattle.reader.specs.declared.ReadAnswer.{ReadAnswer}
use Rattle.sheet_lines.specs.Found.{Found, found, refused, Kind, line_from, section_from, padded}
use Rattle.sheet_lines.specs.Kinds.{horizon_kind, cap_kind, types_kind, ops_kind, edges_kind, type_kind, op_kind, edge_kind}
use Rattle.reader.specs.Read.{longest_sheet, sheet_of, accepted, read_of}
use Rattle.sheet.specs.AnswerLaws.{number_judged, type_judged, op_judged, edge_judged}
use Rattle.sheet_lines.specs.Steps.{line_inside}
use Rattle.reader.specs.Refusals.{not_refused}
use Rattle.reader.specs.Whole.{too_long, stops_horizon, stops_cap, stops_types, stops_ops, stops_edges, whole, something_more, read_of_lem}
use Rattle.round_trip.specs.Accepted.{trimmed, Accepted}
use Rattle.round_trip.specs.All.{all_take, all_at}
use Rattle.round_trip.specs.Lawful.{Lawful, number_lawful, type_lawful, op_lawful, edge_lawful}
use Rattle.round_trip.specs.Lines.{entry_text, entries_text, AllInside, reads_entry, entry_text_lem, reads_section, section_text}
use Rattle.round_trip.specs.Short.{entry_length, entries_length}

-- ---- a sheet as its numbers and lists

abbrev lists_text : ℕ → ℕ → ℕ → List ResourceType → ℕ → List Operation → ℕ → List Edge → List ℕ
lists_text horizon cap r types n ops m edges =
    entry_text horizon_kind horizon ++ (
    entry_text cap_kind cap ++ (
    entry_text types_kind r ++ (entries_text type_kind types ++ (
    entry_text ops_kind n ++ (entries_text (op_kind r horizon) ops ++ (
    entry_text edges_kind m ++ entries_text (edge_kind n) edges))))))

sheet_lists : (s : Sheet)
    → sheet_text s
    ≡ lists_text s.horizon s.cap s.type_count (take s.type_count s.types) s.op_count (take s.op_count s.ops) s.edge_count (take s.edge_count s.edges)
unfolding lines_text sheet_lines
sheet_lists s =
    let types = take s.type_count s.types in
    let ops = take s.op_count s.ops in
    let edges = take s.edge_count s.edges in
    ap (λ (l : List ℕ). entry_text horizon_kind s.horizon ++ (entry_text cap_kind s.cap ++ (entry_text types_kind s.type_count ++ l)))
    (lines_append (map type_line types) (count_line key.ops_key s.op_count ∷ (map op_line ops ++ (count_line key.edges_key s.edge_count ∷ map edge_line edges)))
    ∙ ap (λ (l : List ℕ). entries_text type_kind types ++ (entry_text ops_kind s.op_count ++ l))
    (lines_append (map op_line ops) (count_line key.edges_key s.edge_count ∷ map edge_line edges)))

-- each line answers 0, and the counts count
record Good (horizon cap r : ℕ) (types : List ResourceType) (n : ℕ) (ops : List Operation) (m : ℕ) (edges : List Edge) : Type 0 where
  horizon_in : horizon_kind.answer horizon ≡ 0
  cap_in : cap_kind.answer cap ≡ 0
  types_in : types_kind.answer r ≡ 0
  types_count : length types ≡ r
  each_type_lem : AllInside type_kind types
  ops_in : ops_kind.answer n ≡ 0
  ops_count : length ops ≡ n
  each_op_lem : AllInside (op_kind r horizon) ops
  edges_in : edges_kind.answer m ≡ 0
  edges_count : length edges ≡ m
  each_edge_lem : AllInside (edge_kind n) edges

horizon_near : (h : ℕ) → horizon_kind.answer h ≡ 0 → h ≤ most_starts
horizon_near h e = most ((number_judged range.horizon h).accepted e)

types_few : (r : ℕ) → types_kind.answer r ≡ 0 → r ≤ most_types
types_few r e = most ((number_judged range.types r).accepted e)

ops_few : (n : ℕ) → ops_kind.answer n ≡ 0 → n ≤ most_operations
ops_few n e = most ((number_judged range.operations n).accepted e)

edges_few : (m : ℕ) → edges_kind.answer m ≡ 0 → m ≤ most_edges
edges_few m e = most ((number_judged range.edges m).accepted e)

ops_lawful : (r horizon : ℕ) → types_kind.answer r ≡ 0 → horizon_kind.answer horizon ≡ 0 → Lawful (op_kind r horizon)
ops_lawful r horizon e h = op_lawful r horizon (omega (arith, types_few r e)) (omega (arith, horizon_near horizon h))

edges_lawful : (n : ℕ) → ops_kind.answer n ≡ 0 → Lawful (edge_kind n)
edges_lawful n e = edge_lawful n (omega (arith, ops_few n e))

-- ---- the text is short, and is read

module _ {horizon cap r : ℕ} {types : List ResourceType} {n : ℕ} {ops : List Operation} {m : ℕ} {edges : List Edge} (g : Good horizon cap r types n ops m edges) where
  lists_short : length (lists_text horizon cap r types n ops m edges) ≤ longest_sheet
  lists_short =
      let a₁ : length (entry_text horizon_kind horizon) ≤ 14 = entry_length horizon_kind (number_lawful key.horizon_key range.horizon) horizon g.horizon_in in
      let a₂ : length (entry_text cap_kind cap) ≤ 10 = entry_length cap_kind (number_lawful key.cap_key range.cap) cap g.cap_in in
      let a₃ : length (entry_text types_kind r) ≤ 12 = entry_length types_kind (number_lawful key.types_key range.types) r g.types_in in
      let a₄ : length (entries_text type_kind types) ≤ 23 * length types = entries_length type_kind type_lawful types g.each_type_lem in
      let a₅ : length (entry_text ops_kind n) ≤ 10 = entry_length ops_kind (number_lawful key.ops_key range.operations) n g.ops_in in
      let a₆ : length (entries_text (op_kind r horizon) ops) ≤ 21 * length ops = entries_length (op_kind r horizon) (ops_lawful r horizon g.types_in g.horizon_in) ops g.each_op_lem in
      let a₇ : length (entry_text edges_kind m) ≤ 12 = entry_length edges_kind (number_lawful key.edges_key range.edges) m g.edges_in in
      let a₈ : length (entries_text (edge_kind n) edges) ≤ 29 * length edges = entries_length (edge_kind n) (edges_lawful n g.ops_in) edges g.each_edge_lem in
      let b₁ = types_few r g.types_in in
      let b₂ = ops_few n g.ops_in in
      let b₃ = edges_few m g.edges_in in
      let c₁ = g.types_count in
      let c₂ = g.ops_count in
      let c₃ = g.edges_count in
      simp length-append (omega arith)

  section : {A : Type 0} (counts : Kind ℕ) (counted : Lawful counts) (k : Kind A) (law : Lawful k) (c : ℕ) (es : List A) (rest : List ℕ)
      → counts.answer c ≡ 0 → length es ≡ c → AllInside k es → section_from counts k (entry_text counts c ++ (entries_text k es ++ rest)) ≡ found es rest
  section {A} counts counted k law c es rest i q h =
      subst (λ (x : ℕ). section_from counts k (entry_text counts x ++ (entries_text k es ++ rest)) ≡ found es rest) q
      (reads_section counts counted k law es rest (ap counts.answer q ∙ i) h)

  lists_read : read_of (lists_text horizon cap r types n ops m edges) ≡ accepted (sheet_of horizon cap types ops edges)
  lists_read =
      read_of_lem (lists_text horizon cap r types n ops m edges)
      (whole (lists_text horizon cap r types n ops m edges) lists_short
      horizon _ (reads_entry horizon_kind (number_lawful key.horizon_key range.horizon) horizon _ g.horizon_in)
      cap _ (reads_entry cap_kind (number_lawful key.cap_key range.cap) cap _ g.cap_in)
      types _ (section types_kind (number_lawful key.types_key range.types) type_kind type_lawful r types _ g.types_in g.types_count g.each_type_lem) r g.types_count
      ops _ (section ops_kind (number_lawful key.ops_key range.operations) (op_kind r horizon) (ops_lawful r horizon g.types_in g.horizon_in) n ops _ g.ops_in g.ops_count g.each_op_lem) n g.ops_count
      edges []
      (ap (λ (l : List ℕ). section_from edges_kind (edge_kind n) (entry_text edges_kind m ++ l)) (sym (append-nil (entries_text (edge_kind n) edges)))
      ∙ section edges_kind (number_lawful key.edges_key range.edges) (edge_kind n) (edges_lawful n g.ops_in) m edges [] g.edges_in g.edges_count g.each_edge_lem)
      refl)

-- ---- from a sheet to its lists

module _ (s : Sheet) (long : Arrays s) (ok : InRange s) where
  good : Good s.horizon s.cap s.type_count (take s.type_count s.types) s.op_count (take s.op_count s.ops) s.edge_count (take s.edge_count s.edges)
  good =
      let t : s.type_count ≤ length s.types = omega (arith, most ok.counts.types, long.types) in
      let o : s.op_count ≤ length s.ops = omega (arith, most ok.counts.ops, long.ops) in
      let e : s.edge_count ≤ length s.edges = omega (arith, most ok.counts.edges, long.edges) in
      record {
        horizon_in = (number_judged range.horizon s.horizon).accepts ok.counts.horizon;
        cap_in = (number_judged range.cap s.cap).accepts ok.counts.cap;
        types_in = (number_judged range.types s.type_count).accepts ok.counts.types;
        types_count = length-take-le s.type_count s.types t;
        each_type_lem = all_take (λ a. type_kind.answer a ≡ 0) no_type s.types s.type_count t (λ i h. (type_judged (get_or s.types i no_type)).accepts (ok.each_type i h));
        ops_in = (number_judged range.operations s.op_count).accepts ok.counts.ops;
        ops_count = length-take-le s.op_count s.ops o;
        each_op_lem = all_take (λ a. (op_kind s.type_count s.horizon).answer a ≡ 0) no_operation s.ops s.op_count o
            (λ i h. (op_judged s.type_count s.horizon (get_or s.ops i no_operation)).accepts (ok.each_op i h, ok.each_window i h));
        edges_in = (number_judged range.edges s.edge_count).accepts ok.counts.edges;
        edges_count = length-take-le s.edge_count s.edges e;
        each_edge_lem = all_take (λ a. (edge_kind s.op_count).answer a ≡ 0) no_edge s.edges s.edge_count e
            (λ i h. (edge_judged s.op_count (get_or s.edges i no_edge)).accepts (ok.each_edge i h));
      }

  -- every text fits
  pub text_short : length (sheet_text s) ≤ longest_sheet
  text_short = subst (λ (l : List ℕ). length l ≤ longest_sheet) (sym (sheet_lists s)) (lists_short good)

  -- whatever sheet in range is written reads as itself, with 0 past its counts
  pub accepts : read_of (sheet_text s) ≡ accepted (trimmed s)
  accepts = ap read_of (sheet_lists s) ∙ lists_read good

-- ---- from lists to their sheet

padded_length : {A : Type 0} (size : ℕ) (d : A) (es : List A) → length es ≤ size → length (padded size d es) ≡ size
padded_length size d es h =
    let a = length-append es (replicate (size - length es) d) in
    let b = length-replicate (size - length es) d in
    omega arith

module _ (horizon cap : ℕ) (types : List ResourceType) (ops : List Operation) (edges : List Edge) (g : Good horizon cap (length types) types (length ops) ops (length edges) edges) where
  made_arrays : Arrays (sheet_of horizon cap types ops edges)
  made_arrays = record {
    types = padded_length most_types no_type types (types_few (length types) g.types_in);
    ops = padded_length most_operations no_operation ops (ops_few (length ops) g.ops_in);
    edges = padded_length most_edges no_edge edges (edges_few (length edges) g.edges_in);
  }

  made_op : (i : ℕ) → i < length ops → OpInRange (length types) horizon (get_or ops i no_operation) × NonEmptyWindow (get_or ops i no_operation)
  made_op i h = (op_judged (length types) horizon (get_or ops i no_operation)).accepted (all_at (λ a. (op_kind (length types) horizon).answer a ≡ 0) no_operation ops g.each_op_lem i h)

  made_in_range : InRange (sheet_of horizon cap types ops edges)
  made_in_range = record {
    counts = record {
      horizon = (number_judged range.horizon horizon).accepted g.horizon_in;
      cap = (number_judged range.cap cap).accepted g.cap_in;
      types = (number_judged range.types (length types)).accepted g.types_in;
      ops = (number_judged range.operations (length ops)).accepted g.ops_in;
      edges = (number_judged range.edges (length edges)).accepted g.edges_in;
    };
    each_type = λ i h. subst TypeInRange (sym (get_or-append types (replicate (most_types - length types) no_type) no_type i h))
        ((type_judged (get_or types i no_type)).accepted (all_at (λ a. type_kind.answer a ≡ 0) no_type types g.each_type_lem i h));
    each_op = λ i h. subst (OpInRange (length types) horizon) (sym (get_or-append ops (replicate (most_operations - length ops) no_operation) no_operation i h)) (made_op i h).0;
    each_window = λ i h. subst NonEmptyWindow (sym (get_or-append ops (replicate (most_operations - length ops) no_operation) no_operation i h)) (made_op i h).1;
    each_edge = λ i h. subst (EdgeInRange (length ops)) (sym (get_or-append edges (replicate (most_edges - length edges) no_edge) no_edge i h))
        ((edge_judged (length ops) (get_or edges i no_edge)).accepted (all_at (λ a. (edge_kind (length ops)).answer a ≡ 0) no_edge edges g.each_edge_lem i h));
  }

  made_text : sheet_text (sheet_of horizon cap types ops edges) ≡ lists_text horizon cap (length types) types (length ops) ops (length edges) edges
  made_text = sheet_lists (sheet_of horizon cap types ops edges) ∙ (λ i. lists_text horizon cap
      (length types) (take-append_seam types (replicate (most_types - length types) no_type) i)
      (length ops) (take-append_seam ops (replicate (most_operations - length ops) no_operation) i)
      (length edges) (take-append_seam edges (replicate (most_edges - length edges) no_edge) i))

  made_trimmed : trimmed (sheet_of horizon cap types ops edges) ≡ sheet_of horizon cap types ops edges
  made_trimmed = λ i. sheet_of horizon cap
      (take-append_seam types (replicate (most_types - length types) no_type) i)
      (take-append_seam ops (replicate (most_operations - length ops) no_operation) i)
      (take-append_seam edges (replicate (most_edges - length edges) no_edge) i)

-- ---- what is accepted

module _ (bs : List ℕ) (z : (read_of bs).answer ≡ 0) (h : length bs ≤ longest_sheet) where
  module _ (horizon : ℕ) (b₁ : List ℕ) (e₁ : line_from horizon_kind bs ≡ found horizon b₁) where
    module _ (cap : ℕ) (b₂ : List ℕ) (e₂ : line_from cap_kind b₁ ≡ found cap b₂) where
      module _ (types : List ResourceType) (b₃ : List ℕ) (e₃ : section_from types_kind type_kind b₂ ≡ found types b₃) where
        module _ (ops : List Operation) (b₄ : List ℕ) (e₄ : section_from ops_kind (op_kind (length types) horizon) b₃ ≡ found ops b₄) where
          at_end : (edges : List Edge) → section_from edges_kind (edge_kind (length ops)) b₄ ≡ found edges [] → Accepted bs
          at_end edges e₅ =
              let st = section_text types_kind (number_lawful key.types_key range.types) type_kind type_lawful b₂ types b₃ e₃ in
              let so = section_text ops_kind (number_lawful key.ops_key range.operations) (op_kind (length types) horizon) (ops_lawful (length types) horizon st.count (line_inside horizon_kind bs horizon b₁ e₁)) b₃ ops b₄ e₄ in
              let se = section_text edges_kind (number_lawful key.edges_key range.edges) (edge_kind (length ops)) (edges_lawful (length ops) so.count) b₄ edges [] e₅ in
              let g : Good horizon cap (length types) types (length ops) ops (length edges) edges = record {
                horizon_in = line_inside horizon_kind bs horizon b₁ e₁;
                cap_in = line_inside cap_kind b₁ cap b₂ e₂;
                types_in = st.count;
                types_count = refl;
                each_type_lem = st.good;
                ops_in = so.count;
                ops_count = refl;
                each_op_lem = so.good;
                edges_in = se.count;
                edges_count = refl;
                each_edge_lem = se.good;
              } in
              let t : bs ≡ lists_text horizon cap (length types) types (length ops) ops (length edges) edges =
              entry_text_lem horizon_kind (number_lawful key.horizon_key range.horizon) bs horizon b₁ e₁ ∙ ap (λ (l : List ℕ). entry_text horizon_kind horizon ++ l)
              (entry_text_lem cap_kind (number_lawful key.cap_key range.cap) b₁ cap b₂ e₂ ∙ ap (λ (l : List ℕ). entry_text cap_kind cap ++ l)
              (st.text ∙ ap (λ (l : List ℕ). entry_text types_kind (length types) ++ (entries_text type_kind types ++ l))
              (so.text ∙ ap (λ (l : List ℕ). entry_text ops_kind (length ops) ++ (entries_text (op_kind (length types) horizon) ops ++ l))
              (se.text ∙ ap (λ (l : List ℕ). entry_text edges_kind (length edges) ++ l) (append-nil (entries_text (edge_kind (length ops)) edges)))))) in
              record {
                sheet = sheet_of horizon cap types ops edges;
                in_range = made_in_range horizon cap types ops edges g;
                arrays = made_arrays horizon cap types ops edges g;
                zeros = made_trimmed horizon cap types ops edges g;
                text = t ∙ sym (made_text horizon cap types ops edges g);
                result = read_of_lem bs (whole bs h horizon b₁ e₁ cap b₂ e₂ types b₃ e₃ (length types) refl ops b₄ e₄ (length ops) refl edges [] e₅ refl);
              }

          at_edges : (f : Found (List Edge)) → section_from edges_kind (edge_kind (length ops)) b₄ ≡ f → Accepted bs
          at_edges (refused n b) e = absurd (not_refused bs z (stops_edges bs h horizon b₁ e₁ cap b₂ e₂ types b₃ e₃ (length types) refl ops b₄ e₄ (length ops) refl n b e))
          at_edges (found edges []) e = at_end edges e
          at_edges (found edges (x ∷ xs)) e =
              absurd (not_refused bs z (something_more bs h horizon b₁ e₁ cap b₂ e₂ types b₃ e₃ (length types) refl ops b₄ e₄ (length ops) refl edges (x ∷ xs) e x xs refl))

        at_ops : (f : Found (List Operation)) → section_from ops_kind (op_kind (length types) horizon) b₃ ≡ f → Accepted bs
        at_ops (refused n b) e = absurd (not_refused bs z (stops_ops bs h horizon b₁ e₁ cap b₂ e₂ types b₃ e₃ (length types) refl n b e))
        at_ops (found ops b₄) e = at_edges ops b₄ e (section_from edges_kind (edge_kind (length ops)) b₄) refl

      at_types : (f : Found (List ResourceType)) → section_from types_kind type_kind b₂ ≡ f → Accepted bs
      at_types (refused n b) e = absurd (not_refused bs z (stops_types bs h horizon b₁ e₁ cap b₂ e₂ n b e))
      at_types (found types b₃) e = at_ops types b₃ e (section_from ops_kind (op_kind (length types) horizon) b₃) refl

    at_cap : (f : Found ℕ) → line_from cap_kind b₁ ≡ f → Accepted bs
    at_cap (refused n b) e = absurd (not_refused bs z (stops_cap bs h horizon b₁ e₁ n b e))
    at_cap (found cap b₂) e = at_types cap b₂ e (section_from types_kind type_kind b₂) refl

  at_horizon : (f : Found ℕ) → line_from horizon_kind bs ≡ f → Accepted bs
  at_horizon (refused n b) e = absurd (not_refused bs z (stops_horizon bs h n b e))
  at_horizon (found horizon b₁) e = at_cap horizon b₁ e (line_from cap_kind b₁) refl

-- what is accepted is the text of a sheet in range
pub only_text : (bs : List ℕ) → (read_of bs).answer ≡ 0 → Accepted bs
only_text bs z =
    by_test (ltb longest_sheet (length bs))
    (λ t. absurd (not_refused bs z (too_long bs (ltb-true longest_sheet (length bs) t))))
    (λ t. at_horizon bs z (ltb-false longest_sheet (length bs) t) (line_from horizon_kind bs) refl)

-- writing what was read yields its own bytes
pub writes_back : (bs : List ℕ) → (read_of bs).answer ≡ 0 → sheet_text (read_of bs).sheet ≡ bs
writes_back bs z =
    let a = only_text bs z in
    ap (λ (r : ReadAnswer). sheet_text r.sheet) a.result ∙ sym a.text

-- the text of a sheet in range is accepted
pub text_accepted : (bs : List ℕ) (s : Sheet) → Arrays s → InRange s → bs ≡ sheet_text s → (read_of bs).answer ≡ 0
text_accepted bs s long ok e = ap (λ (r : ReadAnswer). r.answer) (ap read_of e ∙ accepts s long ok)
