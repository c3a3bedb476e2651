-- What holds of every refusal's number, where it holds of 1, of 2 and of every answer of an entry but 0; so no refusal
-- has the number 0, and what is accepted is not refused.
-- Assumes nothing.
use Rattle.std.specs.Prelude.{◌≡◌, Bool, true, false, cond, ltb, length, drop}
use Rattle.std.proofs.Common.{sym, ap, subst, ◌∙◌, arith}
use mathlib.Core.List.{List, [], ◌∷◌, ◌++◌}
use Prim.Native.Nat.{ℕ, zero, suc, ◌<◌}
use Rattle.dependence.specs.declared.Edge.{Edge}
use Rattle.sheet.specs.declared.Sheet.{Sheet}
use Rattle.sheet.specs.declared.Operation.{Operation}
use Rattle.sheet.specs.declared.ResourceType.{ResourceType}
use Rattle.sheet.specs.Ranges as range
use Rattle.sheet.specs.Answer.{number_answer, type_answer, op_answer, edge_answer}
use Rattle.scan.specs.Line.{on_fields, line_of, Fields, fields, bad}
use Rattle.reader.specs.declared.ReadAnswer.{ReadAnswer}
use Rattle.sheet_lines.specs.Found.{Found, found, refused, judged, and_then, Kind, line_from, lines_from, section_from}
use Rattle.sheet_lines.specs.Kinds.{horizon_kind, cap_kind, types_kind, ops_kind, edges_kind, type_kind, op_kind, edge_kind}
use Rattle.reader.specs.Read.{longest_sheet, sheet_from, to_the_end, whole_from, read_of}
use Rattle.reader.specs.Whole.{read_of_lem}

-- P of the number, where there is a refusal
abbrev pub OnRefusal : {A : Type 0} → (ℕ → Type 0) → Found A → Type 0
OnRefusal P (found a rest) = Unit {0}
OnRefusal P (refused n rest) = P n

-- P of every answer, but of 0
pub record Answers (P : ℕ → Type 0) : Type 0 where
  pub too_long : P 1
  pub malformed : P 2
  pub number : (field n : ℕ) → (number_answer field n ≡ 0 → ⊥) → P (number_answer field n)
  pub type_entry : (t : ResourceType) → (type_answer t ≡ 0 → ⊥) → P (type_answer t)
  pub op_entry : (types horizon : ℕ) (o : Operation) → (op_answer types horizon o ≡ 0 → ⊥) → P (op_answer types horizon o)
  pub edge_entry : (ops : ℕ) (e : Edge) → (edge_answer ops e ≡ 0 → ⊥) → P (edge_answer ops e)

module _ {P : ℕ → Type 0} (each : Answers P) where
  then_holds : {A B : Type 0} (x : Found A) (f : A → List ℕ → Found B) → OnRefusal P x → ((a : A) (rest : List ℕ) → OnRefusal P (f a rest)) → OnRefusal P (and_then x f)
  then_holds (found a rest) f h g = g a rest
  then_holds (refused n bs) f h g = h

  judged_holds : {A : Type 0} (n : ℕ) (a : A) (bs rest : List ℕ) → ((n ≡ 0 → ⊥) → P n) → OnRefusal P (judged n a bs rest)
  judged_holds zero a bs rest h = tt
  judged_holds (suc n) a bs rest h = h (λ e. absurd (omega arith))

  -- P of every answer of an entry of a kind, but of 0
  abbrev Each : {A : Type 0} → Kind A → Type 0
  Each {A} k = (a : A) → (k.answer a ≡ 0 → ⊥) → P (k.answer a)

  line_at : {A : Type 0} (k : Kind A) → Each k → (bs : List ℕ) (v : Fields) → OnRefusal P (on_fields v (λ vs rest. judged (k.answer (k.make vs)) (k.make vs) bs rest) (refused 2 bs))
  line_at k h bs (fields vs rest) = judged_holds (k.answer (k.make vs)) (k.make vs) bs rest (h (k.make vs))
  line_at k h bs bad = each.malformed

  line_holds : {A : Type 0} (k : Kind A) → Each k → (bs : List ℕ) → OnRefusal P (line_from k bs)
  unfolding line_from
  line_holds k h bs = line_at k h bs (line_of k.key k.count k.minus bs)

  lines_hold : {A : Type 0} (k : Kind A) → Each k → (n : ℕ) (es : List A) (bs : List ℕ) → OnRefusal P (lines_from k n es bs)
  unfolding lines_from
  lines_hold k h zero es bs = tt
  lines_hold k h (suc n) es bs = then_holds (line_from k bs) (λ a rest. lines_from k n (es ++ (a ∷ [])) rest) (line_holds k h bs) (λ a rest. lines_hold k h n (es ++ (a ∷ [])) rest)

  section_holds : {A : Type 0} (counts : Kind ℕ) → Each counts → (k : Kind A) → Each k → (bs : List ℕ) → OnRefusal P (section_from counts k bs)
  unfolding section_from
  section_holds counts c k h bs = then_holds (line_from counts bs) (λ n rest. lines_from k n [] rest) (line_holds counts c bs) (λ n rest. lines_hold k h n [] rest)

  sheet_holds : (bs : List ℕ) → OnRefusal P (sheet_from bs)
  unfolding sheet_from
  sheet_holds bs =
      then_holds (line_from horizon_kind bs) _ (line_holds horizon_kind (each.number range.horizon) bs) (λ horizon bs₁.
      then_holds (line_from cap_kind bs₁) _ (line_holds cap_kind (each.number range.cap) bs₁) (λ cap bs₂.
      then_holds (section_from types_kind type_kind bs₂) _ (section_holds types_kind (each.number range.types) type_kind each.type_entry bs₂) (λ types bs₃.
      then_holds (section_from ops_kind (op_kind (length types) horizon) bs₃) _ (section_holds ops_kind (each.number range.operations) (op_kind (length types) horizon) (each.op_entry (length types) horizon) bs₃) (λ ops bs₄.
      then_holds (section_from edges_kind (edge_kind (length ops)) bs₄) _ (section_holds edges_kind (each.number range.edges) (edge_kind (length ops)) (each.edge_entry (length ops)) bs₄) (λ edges bs₅. tt)))))

  end_holds : (x : Found Sheet) → OnRefusal P x → OnRefusal P (to_the_end x)
  end_holds (found s []) h = tt
  end_holds (found s (b ∷ bs)) h = each.malformed
  end_holds (refused n bs) h = h

  long_holds : (b : Bool) (bs : List ℕ) → OnRefusal P (cond b (refused 1 (drop longest_sheet bs)) (to_the_end (sheet_from bs)))
  long_holds true bs = each.too_long
  long_holds false bs = end_holds (sheet_from bs) (sheet_holds bs)

  pub refusal_holds : (bs : List ℕ) → OnRefusal P (whole_from bs)
  unfolding whole_from
  refusal_holds bs = long_holds (ltb longest_sheet (length bs)) bs

-- ---- a refusal has a number

some : (n : ℕ) → (n ≡ 0 → ⊥) → 0 < n
some n h = omega arith

numbered : Answers (λ n. 0 < n)
numbered = record {
  too_long = omega arith;
  malformed = omega arith;
  number = λ field n. some (number_answer field n);
  type_entry = λ t. some (type_answer t);
  op_entry = λ types horizon o. some (op_answer types horizon o);
  edge_entry = λ ops e. some (edge_answer ops e);
}

pub not_refused : (bs : List ℕ) {n : ℕ} {rest : List ℕ} → (read_of bs).answer ≡ 0 → whole_from bs ≡ refused n rest → ⊥
not_refused bs {n} z e =
    let h : 0 < n = subst (OnRefusal (λ m. 0 < m)) e (refusal_holds numbered bs) in
    let q : n ≡ 0 = sym (ap (λ (r : ReadAnswer). r.answer) (read_of_lem bs e)) ∙ z in
    omega arith
