-- Laws of answers: a line answers 0 exactly if its numbers are in range and its window, if it has one, is not empty; a
-- sheet exactly if each of its lines does; where an answer is not 0, it is that of the first line that refuses.
-- Assumes nothing.
use Rattle.std.specs.Prelude.{◌≡◌, pos}
use Rattle.std.proofs.Math.Path.{refl}
use Rattle.std.proofs.Common.{sym, ap, subst, ◌∙◌, arith, add-one}
use Prim.Native.Nat.{ℕ, zero, suc, ◌+◌, ◌<◌, ◌≤◌}
use Rattle.std.proofs.Math.Decide.{dec_lt}
use Rattle.dependence.specs.declared.Edge.{Edge}
use Rattle.sheet.specs.declared.Sheet.{Sheet}
use Rattle.sheet.specs.declared.Operation.{Operation}
use Rattle.sheet.specs.declared.ResourceType.{ResourceType}
use Rattle.sheet.specs.Ranges as range
use Rattle.sheet.specs.Sheet.{type_at, op_at, edge_at, TypeInRange, OpInRange, NonEmptyWindow, EdgeInRange, InRange}
use Rattle.sheet.specs.Decide.{inside_decided, type_decided, op_decided, window_decided, edge_decided}
use Rattle.sheet.specs.Answer.{ask, first, first_of, number_answer, type_answer, op_answer, edge_answer, types_answer, ops_answer, edges_answer, sheet_answer}

-- ---- one question

module _ {P : Type 0} (d : Dec P) (n rest : ℕ) where
  pub ask_yes : P → ask d n rest ≡ rest
  ask_yes x = go d
    where
      go : (d : Dec P) → ask d n rest ≡ rest
      go (yes p) = refl
      go (no q) = absurd (q x)

  pub ask_no : (P → ⊥) → ask d n rest ≡ n
  ask_no x = go d
    where
      go : (d : Dec P) → ask d n rest ≡ n
      go (yes p) = absurd (x p)
      go (no q) = refl

-- an answer that is 0 exactly if P holds, and has at most two digits
pub record Judges (P : Type 0) (answer : ℕ) : Type 0 where
  pub accepts : P → answer ≡ 0
  pub accepted : answer ≡ 0 → P
  pub few : answer ≤ 99

-- no question is left
pub no_question : Judges (Unit {0}) 0
no_question = record { accepts = λ _. refl; accepted = λ _. tt; few = omega arith }

-- a question before others
pub question : {P Q : Type 0} (d : Dec P) (n : ℕ) → 0 < n → n ≤ 99 → {rest : ℕ} → Judges Q rest → Judges (P × Q) (ask d n rest)
question (yes p) n l h j = record { accepts = λ x. j.accepts x.1; accepted = λ e. (p, j.accepted e); few = j.few }
question (no q) n l h j = record { accepts = λ x. absurd (q x.0); accepted = λ e. absurd (omega arith); few = h }

-- the same answer to an equivalent statement
pub judges : {P Q : Type 0} {n : ℕ} → (P → Q) → (Q → P) → Judges P n → Judges Q n
judges to back j = record { accepts = λ q. j.accepts (back q); accepted = λ e. to (j.accepted e); few = j.few }

-- ---- each kind of line

-- question 3 alone
three : {P : Type 0} (d : Dec P) → Judges P (ask d 3 0)
three d = judges (λ x. x.0) (λ p. (p, tt)) (question d 3 (omega arith) (omega arith) no_question)

pub number_judged : (field n : ℕ) → Judges (range.Inside field (pos n)) (number_answer field n)
unfolding number_answer
number_judged field n = three (inside_decided field (pos n))

pub number_out : (field n : ℕ) → (range.Inside field (pos n) → ⊥) → number_answer field n ≡ 3
unfolding number_answer
number_out field m n = ask_no (inside_decided field (pos m)) 3 0 n

pub type_judged : (t : ResourceType) → Judges (TypeInRange t) (type_answer t)
unfolding type_answer
type_judged t = three (type_decided t)

pub type_out : (t : ResourceType) → (TypeInRange t → ⊥) → type_answer t ≡ 3
unfolding type_answer
type_out t n = ask_no (type_decided t) 3 0 n

pub op_judged : (types horizon : ℕ) (o : Operation) → Judges (OpInRange types horizon o × NonEmptyWindow o) (op_answer types horizon o)
unfolding op_answer
op_judged types horizon o =
    judges (λ x. (x.0, x.1.0)) (λ x. (x.0, (x.1, tt)))
    (question (op_decided types horizon o) 3 (omega arith) (omega arith) (question (window_decided o) 16 (omega arith) (omega arith) no_question))

pub op_out : (types horizon : ℕ) (o : Operation) → (OpInRange types horizon o → ⊥) → op_answer types horizon o ≡ 3
unfolding op_answer
op_out types horizon o n = ask_no (op_decided types horizon o) 3 (ask (window_decided o) 16 0) n

-- 16 comes after 3 in the same line
pub op_empty : (types horizon : ℕ) (o : Operation) → OpInRange types horizon o → (NonEmptyWindow o → ⊥) → op_answer types horizon o ≡ 16
unfolding op_answer
op_empty types horizon o i n = ask_yes (op_decided types horizon o) 3 (ask (window_decided o) 16 0) i ∙ ask_no (window_decided o) 16 0 n

pub edge_judged : (ops : ℕ) (e : Edge) → Judges (EdgeInRange ops e) (edge_answer ops e)
unfolding edge_answer
edge_judged ops e = three (edge_decided ops e)

pub edge_out : (ops : ℕ) (e : Edge) → (EdgeInRange ops e → ⊥) → edge_answer ops e ≡ 3
unfolding edge_answer
edge_out ops e n = ask_no (edge_decided ops e) 3 0 n

-- ---- several answers in order

pub first_stop : (a b : ℕ) → (a ≡ 0 → ⊥) → first a b ≡ a
first_stop zero b n = absurd (n refl)
first_stop (suc a) b n = refl

-- the lines before did not refuse
pub first_on : (a b : ℕ) {r : ℕ} → a ≡ 0 → b ≡ r → first a b ≡ r
first_on zero b z e = e
first_on (suc a) b z e = absurd (omega arith)

first_left : (a b : ℕ) → first a b ≡ 0 → a ≡ 0
first_left zero b e = refl
first_left (suc a) b e = e

first_right : (a b : ℕ) → first a b ≡ 0 → b ≡ 0
first_right zero b e = e
first_right (suc a) b e = absurd (omega arith)

module _ (f : ℕ → ℕ) where
  pub first_none : first_of 0 f ≡ 0
  unfolding first_of
  first_none = refl

  pub first_more : (k : ℕ) → first_of k f ≡ 0 → f k ≡ 0 → first_of (k + 1) f ≡ 0
  unfolding first_of
  first_more k e h = rw (add-one, e, h)

  -- all lines are done
  pub first_end : {k n : ℕ} → k ≤ n → n ≤ k → first_of k f ≡ 0 → first_of n f ≡ 0
  first_end {k} {n} a b e = let q : k ≡ n = omega arith in subst (λ (m : ℕ). first_of m f ≡ 0) q e

  -- a line refuses after lines that did not: no later line is looked at
  at_step : (n k : ℕ) → Dec (k < n) → k < suc n → (k < n → first_of n f ≡ f k) → first_of k f ≡ 0 → (f k ≡ 0 → ⊥) → first (first_of n f) (f n) ≡ f k
  at_step n k (yes l) h ih e x = ap (λ (a : ℕ). first a (f n)) (ih l) ∙ first_stop (f k) (f n) x
  at_step n k (no l) h ih e x =
      let q : k ≡ n = omega arith in
      ap (λ (a : ℕ). first a (f n)) (subst (λ (m : ℕ). first_of m f ≡ 0) q e) ∙ ap f (sym q)

  pub first_at_lem : (n k : ℕ) → k < n → first_of k f ≡ 0 → (f k ≡ 0 → ⊥) → first_of n f ≡ f k
  unfolding first_of
  first_at_lem zero k h e x = absurd (omega arith)
  first_at_lem (suc n) k h e x = at_step n k (dec_lt k n) h (λ l. first_at_lem n k l e x) e x

  pub first_all : (n : ℕ) → ((k : ℕ) → k < n → f k ≡ 0) → first_of n f ≡ 0
  unfolding first_of
  first_all zero h = refl
  first_all (suc n) h = rw (first_all n (λ k l. h k (omega arith)), h n (omega arith))

  each_step : (n k : ℕ) → Dec (k < n) → k < suc n → (k < n → f k ≡ 0) → f n ≡ 0 → f k ≡ 0
  each_step n k (yes l) h ih e = ih l
  each_step n k (no l) h ih e = let q : k ≡ n = omega arith in ap f q ∙ e

  pub first_each : (n : ℕ) → first_of n f ≡ 0 → (k : ℕ) → k < n → f k ≡ 0
  unfolding first_of
  first_each zero e k h = absurd (omega arith)
  first_each (suc n) e k h = each_step n k (dec_lt k n) h (λ l. first_each n (first_left (first_of n f) (f n) e) k l) (first_right (first_of n f) (f n) e)

-- a count, then as many lines
section_inside : (c n : ℕ) (f : ℕ → ℕ) → first c (first_of n f) ≡ 0 → (c ≡ 0) × ((k : ℕ) → k < n → f k ≡ 0)
section_inside c n f e = (first_left c (first_of n f) e, first_each f n (first_right c (first_of n f) e))

-- ---- a sheet

module _ (s : Sheet) where
  -- what is asked from each section on
  abbrev from_ops : ℕ
  from_ops = first (ops_answer s) (edges_answer s)

  abbrev from_types : ℕ
  from_types = first (types_answer s) from_ops

  abbrev from_cap : ℕ
  from_cap = first (number_answer range.cap s.cap) from_types

  pub sheet_in : InRange s → sheet_answer s ≡ 0
  unfolding sheet_answer
  sheet_in ok =
      let c = ok.counts in
      rw (
        (number_judged range.horizon s.horizon).accepts c.horizon,
        (number_judged range.cap s.cap).accepts c.cap,
        (number_judged range.types s.type_count).accepts c.types,
        first_all (λ r. type_answer (type_at s r)) s.type_count (λ r h. (type_judged (type_at s r)).accepts (ok.each_type r h)),
        (number_judged range.operations s.op_count).accepts c.ops,
        first_all (λ i. op_answer s.type_count s.horizon (op_at s i)) s.op_count (λ i h. (op_judged s.type_count s.horizon (op_at s i)).accepts (ok.each_op i h, ok.each_window i h)),
        (number_judged range.edges s.edge_count).accepts c.edges,
        first_all (λ k. edge_answer s.op_count (edge_at s k)) s.edge_count (λ k h. (edge_judged s.op_count (edge_at s k)).accepts (ok.each_edge k h)),
      )

  pub sheet_inside : sheet_answer s ≡ 0 → InRange s
  unfolding sheet_answer
  sheet_inside e =
      let h : number_answer range.horizon s.horizon ≡ 0 = first_left _ from_cap e in
      let e₁ : from_cap ≡ 0 = first_right (number_answer range.horizon s.horizon) _ e in
      let m : number_answer range.cap s.cap ≡ 0 = first_left _ from_types e₁ in
      let e₂ : from_types ≡ 0 = first_right (number_answer range.cap s.cap) _ e₁ in
      let t = section_inside (number_answer range.types s.type_count) s.type_count (λ r. type_answer (type_at s r)) (first_left (types_answer s) from_ops e₂) in
      let e₃ : from_ops ≡ 0 = first_right (types_answer s) from_ops e₂ in
      let o = section_inside (number_answer range.operations s.op_count) s.op_count (λ i. op_answer s.type_count s.horizon (op_at s i)) (first_left (ops_answer s) (edges_answer s) e₃) in
      let d = section_inside (number_answer range.edges s.edge_count) s.edge_count (λ k. edge_answer s.op_count (edge_at s k)) (first_right (ops_answer s) (edges_answer s) e₃) in
      record {
        counts = record {
          horizon = (number_judged range.horizon s.horizon).accepted h;
          cap = (number_judged range.cap s.cap).accepted m;
          types = (number_judged range.types s.type_count).accepted t.0;
          ops = (number_judged range.operations s.op_count).accepted o.0;
          edges = (number_judged range.edges s.edge_count).accepted d.0;
        };
        each_type = λ r l. (type_judged (type_at s r)).accepted (t.1 r l);
        each_op = λ i l. ((op_judged s.type_count s.horizon (op_at s i)).accepted (o.1 i l)).0;
        each_window = λ i l. ((op_judged s.type_count s.horizon (op_at s i)).accepted (o.1 i l)).1;
        each_edge = λ k l. (edge_judged s.op_count (edge_at s k)).accepted (d.1 k l);
      }

  -- a sheet that is not in range has a refusal
  pub sheet_out : (InRange s → ⊥) → sheet_answer s ≡ 0 → ⊥
  sheet_out n e = n (sheet_inside e)
