-- Entries past R, N or E are no part of a sheet: sheets that differ only there are written alike. Assumes nothing.
use Rattle.std.specs.Prelude.{◌≡◌, ℕ, ◌<◌, ◌≤◌, get_or, length}
use Rattle.std.proofs.Common.{sym, subst, ◌∙◌, arith, ext_get_or, get_or-take, length-take-le}
use Rattle.std.proofs.Math.Path.{ap}
use mathlib.Core.List.{List, ◌∷◌, ◌++◌, map}
use Rattle.std.proofs.Math.ListN.{take}
use Rattle.text.specs.declared.Written.{Written}
use Rattle.text.specs.Text.{buffer_of}
use Rattle.text.specs.Line.{refused, written_of}
use Rattle.text.specs.Lines.{lines_text, count_line}
use Rattle.text.specs.Keys as key
use Rattle.dependence.specs.Graph.{no_edge}
use Rattle.sheet.specs.declared.Sheet.{Sheet}
use Rattle.sheet.specs.Sheet.{no_type, no_operation, Arrays, InRange}
use Rattle.sheet.specs.Facts.{types_most, ops_most, edges_most}
use Rattle.sheet.specs.Text.{type_line, op_line, edge_line, sheet_lines, sheet_text}
use Rattle.sheet.specs.Entries.{SameSheet, turn, range_same, answer_same}
use Rattle.writer.specs.Wrote.{Wrote, out_of_range, in_range_lem}

take_same : {A : Type 0} (d : A) (n : ℕ) (xs ys : List A) → n ≤ length xs → n ≤ length ys → ((i : ℕ) → i < n → get_or xs i d ≡ get_or ys i d) → take n xs ≡ take n ys
take_same d n xs ys h k e =
    ext_get_or d (take n xs) (take n ys) (length-take-le n xs h ∙ sym (length-take-le n ys k))
    (λ i l. let j : i < n = omega (arith, length-take-le n xs h, l) in get_or-take n xs i d j ∙ e i j ∙ sym (get_or-take n ys i d j))

module _ {s s' : Sheet} (e : SameSheet s s') (a : Arrays s) (b : Arrays s') where
  lines_same : InRange s → sheet_lines s ≡ sheet_lines s'
  unfolding sheet_lines
  lines_same ok =
      let types = take_same no_type s.type_count s.types s'.types (omega (arith, types_most ok, a.types)) (omega (arith, types_most ok, b.types)) e.each_type ∙ ap (λ (n : ℕ). take n s'.types) e.type_count in
      let ops = take_same no_operation s.op_count s.ops s'.ops (omega (arith, ops_most ok, a.ops)) (omega (arith, ops_most ok, b.ops)) e.each_op ∙ ap (λ (n : ℕ). take n s'.ops) e.op_count in
      let edges = take_same no_edge s.edge_count s.edges s'.edges (omega (arith, edges_most ok, a.edges)) (omega (arith, edges_most ok, b.edges)) e.each_edge ∙ ap (λ (n : ℕ). take n s'.edges) e.edge_count in
      λ k.
      count_line key.horizon_key (e.horizon k) ∷
      count_line key.cap_key (e.cap k) ∷
      count_line key.types_key (e.type_count k) ∷
      (map type_line (types k) ++ (
      count_line key.ops_key (e.op_count k) ∷
      (map op_line (ops k) ++ (
      count_line key.edges_key (e.edge_count k) ∷
      map edge_line (edges k)))))

  pub text_same : InRange s → sheet_text s ≡ sheet_text s'
  text_same ok = ap lines_text (lines_same ok)

  pub wrote_same : {old new : List ℕ} {r : Written} → Wrote s old r new → Wrote s' old r new
  wrote_same {old} (out_of_range n) = subst (λ (m : ℕ). Wrote s' old (refused m) old) (sym (answer_same e)) (out_of_range (λ ok. n (range_same (turn e) ok)))
  wrote_same {old} (in_range_lem ok) = subst (λ (t : List ℕ). Wrote s' old (written_of t old) (buffer_of t old)) (sym (text_same ok)) (in_range_lem (range_same e ok))
