-- How many lines a sheet has, and laws of their places.
-- Assumes nothing.
use Rattle.std.specs.Prelude.{◌≡◌, refl, List, [], ◌∷◌, ◌++◌, map, length, take}
use Rattle.std.proofs.Math.Path.{ap}
use Rattle.std.proofs.Common.{◌∙◌, length-append, length-take-le, get_or-take, get_or-append-add}
use Prim.Native.Nat.{ℕ, zero, suc, ◌+◌, ◌-◌, ◌≤◌, ◌<◌}
use native.Mathlib.Omega.{arith}
use Rattle.std.proofs.Math.ListN.{get_or, get_or-append}
use Rattle.std.proofs.lemmas.List.{length-map}
use Rattle.sizes.specs.Sizes.{most_types, most_operations, most_edges}
use Rattle.text.specs.Lines.{Line, count_line, no_line}
use Rattle.text.specs.Keys as key
use Rattle.dependence.specs.Graph.{no_edge}
use Rattle.sheet.specs.declared.Sheet.{Sheet}
use Rattle.sheet.specs.Sheet.{no_type, no_operation, type_at, op_at, edge_at}
use Rattle.sheet.specs.Text.{type_line, op_line, edge_line, sheet_lines}

-- horizon, cap and the count of types come first
abbrev pub head_lines : ℕ
head_lines = 3

-- those, the counts of operations and edges, and a line for each entry
abbrev pub most_lines : ℕ
most_lines = head_lines + 2 + most_types + most_operations + most_edges

-- ---- an entry of a list that is put together

after_head : (x : Line) (ls : List Line) (i : ℕ) → 1 ≤ i → get_or (x ∷ ls) i no_line ≡ get_or ls (i - 1) no_line
after_head x ls i h = let e : i ≡ suc (i - 1) = omega arith in ap (λ (k : ℕ). get_or (x ∷ ls) k no_line) e

at_head : (x : Line) (ls : List Line) (i : ℕ) → i ≡ 0 → get_or (x ∷ ls) i no_line ≡ x
at_head x ls i e = ap (λ (k : ℕ). get_or (x ∷ ls) k no_line) e

module _ {A : Type 0} (f : A → Line) (d : A) where
  mapped : (xs : List A) (i : ℕ) → i < length xs → get_or (map f xs) i no_line ≡ f (get_or xs i d)
  mapped [] i h = absurd (omega arith)
  mapped (x ∷ xs) zero h = refl
  mapped (x ∷ xs) (suc i) h = mapped xs i (omega arith)

  module _ (xs : List A) (n : ℕ) (l : n ≤ length xs) where
    counted : length (map f (take n xs)) ≡ n
    counted = length-map (take n xs) f ∙ length-take-le n xs l

    in_section : (i : ℕ) → i < n → get_or (map f (take n xs)) i no_line ≡ f (get_or xs i d)
    in_section i h = mapped (take n xs) i (rw (length-take-le n xs l) h) ∙ ap f (get_or-take n xs i d h)

    in_first : (rest : List Line) (i : ℕ) → i < n → get_or (map f (take n xs) ++ rest) i no_line ≡ f (get_or xs i d)
    in_first rest i h = get_or-append (map f (take n xs)) rest no_line i (rw counted h) ∙ in_section i h

    past_first : (rest : List Line) (i : ℕ) → n ≤ i → get_or (map f (take n xs) ++ rest) i no_line ≡ get_or rest (i - n) no_line
    past_first rest i h =
        let e : i ≡ length (map f (take n xs)) + (i - n) = rw counted (omega arith) in
        ap (λ (k : ℕ). get_or (map f (take n xs) ++ rest) k no_line) e ∙ get_or-append-add (map f (take n xs)) rest (i - n) no_line

-- ---- the places of a sheet's lines

module _ (s : Sheet) (lr : s.type_count ≤ length s.types) (ln : s.op_count ≤ length s.ops) (le : s.edge_count ≤ length s.edges) where
  edge_lines : List Line
  edge_lines = map edge_line (take s.edge_count s.edges)

  op_lines : List Line
  op_lines = map op_line (take s.op_count s.ops) ++ (count_line key.edges_key s.edge_count ∷ edge_lines)

  type_lines_lem : List Line
  type_lines_lem = map type_line (take s.type_count s.types) ++ (count_line key.ops_key s.op_count ∷ op_lines)

  pub line_count_lem : length (sheet_lines s) ≡ 5 + s.type_count + s.op_count + s.edge_count
  unfolding sheet_lines
  line_count_lem =
      let a = counted type_line no_type s.types s.type_count lr in
      let b = counted op_line no_operation s.ops s.op_count ln in
      let c = counted edge_line no_edge s.edges s.edge_count le in
      simp (length-append, a, b, c) (omega arith)

  from_types : (i : ℕ) → 3 ≤ i → get_or (sheet_lines s) i no_line ≡ get_or type_lines_lem (i - 3) no_line
  unfolding sheet_lines type_lines_lem op_lines edge_lines
  from_types i h = let e : i ≡ suc (suc (suc (i - 3))) = omega arith in ap (λ (k : ℕ). get_or (sheet_lines s) k no_line) e

  from_ops : (j : ℕ) → s.type_count < j → get_or type_lines_lem j no_line ≡ get_or op_lines (j - s.type_count - 1) no_line
  unfolding type_lines_lem op_lines edge_lines
  from_ops j h =
      past_first type_line no_type s.types s.type_count lr (count_line key.ops_key s.op_count ∷ op_lines) j (omega arith)
      ∙ after_head (count_line key.ops_key s.op_count) op_lines (j - s.type_count) (omega arith)

  from_edges : (k : ℕ) → s.op_count < k → get_or op_lines k no_line ≡ get_or edge_lines (k - s.op_count - 1) no_line
  unfolding op_lines edge_lines
  from_edges k h =
      past_first op_line no_operation s.ops s.op_count ln (count_line key.edges_key s.edge_count ∷ edge_lines) k (omega arith)
      ∙ after_head (count_line key.edges_key s.edge_count) edge_lines (k - s.op_count) (omega arith)

  -- a place i from 3 on is j + 3, and from the operations' lines on j is k + the types' lines and one more
  module _ (i : ℕ) (h : 3 ≤ i) where
    pub type_place : i - 3 < s.type_count → get_or (sheet_lines s) i no_line ≡ type_line (type_at s (i - 3))
    unfolding type_lines_lem
    type_place g = from_types i h ∙ in_first type_line no_type s.types s.type_count lr (count_line key.ops_key s.op_count ∷ op_lines) (i - 3) g

    pub ops_place : i - 3 ≡ s.type_count → get_or (sheet_lines s) i no_line ≡ count_line key.ops_key s.op_count
    unfolding type_lines_lem
    ops_place g =
        from_types i h
        ∙ past_first type_line no_type s.types s.type_count lr (count_line key.ops_key s.op_count ∷ op_lines) (i - 3) (omega arith)
        ∙ at_head (count_line key.ops_key s.op_count) op_lines (i - 3 - s.type_count) (omega arith)

    module _ (g : s.type_count < i - 3) where
      pub op_place : i - 3 - s.type_count - 1 < s.op_count → get_or (sheet_lines s) i no_line ≡ op_line (op_at s (i - 3 - s.type_count - 1))
      unfolding op_lines
      op_place f =
          from_types i h ∙ from_ops (i - 3) g
          ∙ in_first op_line no_operation s.ops s.op_count ln (count_line key.edges_key s.edge_count ∷ edge_lines) (i - 3 - s.type_count - 1) f

      pub edges_place : i - 3 - s.type_count - 1 ≡ s.op_count → get_or (sheet_lines s) i no_line ≡ count_line key.edges_key s.edge_count
      unfolding op_lines
      edges_place f =
          from_types i h ∙ from_ops (i - 3) g
          ∙ past_first op_line no_operation s.ops s.op_count ln (count_line key.edges_key s.edge_count ∷ edge_lines) (i - 3 - s.type_count - 1) (omega arith)
          ∙ at_head (count_line key.edges_key s.edge_count) edge_lines (i - 3 - s.type_count - 1 - s.op_count) (omega arith)

      pub edge_place : s.op_count < i - 3 - s.type_count - 1 → i < length (sheet_lines s)
          → get_or (sheet_lines s) i no_line ≡ edge_line (edge_at s (i - 3 - s.type_count - 1 - s.op_count - 1))
      unfolding edge_lines
      edge_place f z =
          let n = line_count_lem in
          from_types i h ∙ from_ops (i - 3) g ∙ from_edges (i - 3 - s.type_count - 1) f
          ∙ in_section edge_line no_edge s.edges s.edge_count le (i - 3 - s.type_count - 1 - s.op_count - 1) (omega arith)

-- a line past the last count is one of the E last lines
pub last_place : (i R N E : ℕ) → 3 ≤ i → R ≤ i - 3 → (i - 3 ≡ R → ⊥) → N ≤ i - 3 - R - 1 → (i - 3 - R - 1 ≡ N → ⊥) → i < 5 + R + N + E → i - 3 - R - 1 - N - 1 < E
last_place i R N E h p q u v z =
    let a : suc R ≤ i - 3 = omega arith in
    let b : i ≡ 3 + (i - 3) = omega arith in
    last_of (i - 3) R N E a u v (omega arith)
  where
    last_in : (k N E : ℕ) → suc N ≤ k → k < 1 + N + E → k - N - 1 < E
    last_in k N E p z = omega arith

    last_of : (j R N E : ℕ) → suc R ≤ j → N ≤ j - R - 1 → (j - R - 1 ≡ N → ⊥) → j < 2 + R + N + E → j - R - 1 - N - 1 < E
    last_of j R N E p u v z =
        let a : suc N ≤ j - R - 1 = omega arith in
        last_in (j - R - 1) N E a (omega arith)
