-- In a sheet handed over as numbers, entries past R, N or E are no part of it: sheets that differ only there get the
-- same answer to the sheet's own questions, and have the same dependences and bad closed walks. Assumes nothing.
use Rattle.std.specs.Prelude.{◌≡◌, List, ◌∷◌, ℕ, zero, suc, ◌<◌, get_or, length, ℤ, pos, ◌+ℤ◌, ◌≤ℤ◌, ◌<ℤ◌}
use Rattle.std.proofs.Math.Path.{refl, ap₂}
use Rattle.std.proofs.Common.{sym, ap, subst, ◌∙◌, arith}
use Rattle.std.proofs.Math.Decide.{dec_lt}
use Rattle.std.proofs.lemmas.List.{length-map}
use Rattle.std.proofs.Math.ListN.{get_or-eq_default}
use Rattle.dependence.specs.declared.Edge.{Edge}
use Rattle.dependence.specs.Graph.{total, total_of}
use Rattle.dependence.specs.Rules.{Meets, Chain, here, step, sum, BadWalk, FirstBadWalk}
use Rattle.sheet.specs.declared.Sheet.{Sheet}
use Rattle.sheet.specs.declared.Operation.{Operation}
use Rattle.sheet.specs.declared.ResourceType.{ResourceType}
use Rattle.sheet.specs.Ranges as range
use Rattle.sheet.specs.Sheet.{type_at, op_at, edge_at, type_of, InRange, Interval, graph_of}
use Rattle.sheet.specs.Facts.{graph_latency}
use Rattle.sheet.specs.Answer.{first, first_of, number_answer, type_answer, op_answer, edge_answer, types_answer, ops_answer, edges_answer, sheet_answer}
use Rattle.sheet.specs.AnswerLaws.{sheet_in, sheet_inside}
use Rattle.sheet.specs.Questions.{Asked, at_no, at_yes, OnSheet, AtInterval}
use Rattle.sheet.specs.Loop.{Feasible, IfFeasible}

-- the same horizon, cap, counts and entries below the counts; the arrays of operations have one size, that of every
-- sheet (24)
pub record SameSheet (s s' : Sheet) : Type 0 where
  pub horizon : s.horizon ≡ s'.horizon
  pub cap : s.cap ≡ s'.cap
  pub type_count : s.type_count ≡ s'.type_count
  pub op_count : s.op_count ≡ s'.op_count
  pub edge_count : s.edge_count ≡ s'.edge_count
  pub each_type : (r : ℕ) → r < s.type_count → type_at s r ≡ type_at s' r
  pub each_op : (i : ℕ) → i < s.op_count → op_at s i ≡ op_at s' i
  pub each_edge : (k : ℕ) → k < s.edge_count → edge_at s k ≡ edge_at s' k
  pub size : length s.ops ≡ length s'.ops

pub turn : {s s' : Sheet} → SameSheet s s' → SameSheet s' s
turn e = record {
  horizon = sym e.horizon;
  cap = sym e.cap;
  type_count = sym e.type_count;
  op_count = sym e.op_count;
  edge_count = sym e.edge_count;
  each_type = λ r h. sym (e.each_type r (omega (arith, e.type_count)));
  each_op = λ i h. sym (e.each_op i (omega (arith, e.op_count)));
  each_edge = λ k h. sym (e.each_edge k (omega (arith, e.edge_count)));
  size = sym e.size;
}

-- ---- the sheet's own questions, and 4

first_of_same : (n : ℕ) (f g : ℕ → ℕ) → ((k : ℕ) → k < n → f k ≡ g k) → first_of n f ≡ first_of n g
unfolding first_of
first_of_same zero f g h = refl
first_of_same (suc n) f g h = ap₂ first (first_of_same n f g (λ k l. h k (omega arith))) (h n (omega arith))

module _ {s s' : Sheet} (e : SameSheet s s') where
  types_answer_same : types_answer s ≡ types_answer s'
  types_answer_same =
      ap (λ (x : ℕ). first (number_answer range.types s.type_count) x)
      (first_of_same s.type_count (λ r. type_answer (type_at s r)) (λ r. type_answer (type_at s' r)) (λ r h. ap type_answer (e.each_type r h)))
      ∙ ap (λ (n : ℕ). first (number_answer range.types n) (first_of n (λ r. type_answer (type_at s' r)))) e.type_count

  ops_answer_same : ops_answer s ≡ ops_answer s'
  ops_answer_same =
      ap (λ (x : ℕ). first (number_answer range.operations s.op_count) x)
      (first_of_same s.op_count (λ i. op_answer s.type_count s.horizon (op_at s i)) (λ i. op_answer s'.type_count s'.horizon (op_at s' i))
      (λ i h. ap (λ (f : Operation → ℕ). f (op_at s i)) (ap₂ op_answer e.type_count e.horizon) ∙ ap (op_answer s'.type_count s'.horizon) (e.each_op i h)))
      ∙ ap (λ (n : ℕ). first (number_answer range.operations n) (first_of n (λ i. op_answer s'.type_count s'.horizon (op_at s' i)))) e.op_count

  edges_answer_same : edges_answer s ≡ edges_answer s'
  edges_answer_same =
      ap (λ (x : ℕ). first (number_answer range.edges s.edge_count) x)
      (first_of_same s.edge_count (λ k. edge_answer s.op_count (edge_at s k)) (λ k. edge_answer s'.op_count (edge_at s' k))
      (λ k h. ap₂ edge_answer e.op_count (e.each_edge k h)))
      ∙ ap (λ (n : ℕ). first (number_answer range.edges n) (first_of n (λ k. edge_answer s'.op_count (edge_at s' k)))) e.edge_count

  pub answer_same : sheet_answer s ≡ sheet_answer s'
  unfolding sheet_answer
  answer_same =
      ap₂ first (ap (number_answer range.horizon) e.horizon)
      (ap₂ first (ap (number_answer range.cap) e.cap) (ap₂ first types_answer_same (ap₂ first ops_answer_same edges_answer_same)))

  pub range_same : InRange s → InRange s'
  range_same ok = sheet_inside s' (sym answer_same ∙ sheet_in s ok)

  pub interval_same : {L : ℕ} → Interval s L → Interval s' L
  interval_same i = record { low = i.low; high = omega (arith, e.cap, i.high) }

-- ---- the dependences

module _ {s s' : Sheet} (e : SameSheet s s') (ok : InRange s) where
  pub type_same : (i : ℕ) → i < s.op_count → type_of s i ≡ type_of s' i
  type_same i h = e.each_type (op_at s i).resource (ok.each_op i h).resource ∙ ap (λ (o : Operation). type_at s' o.resource) (e.each_op i h)

  latency_same : (i : ℕ) → i < s.op_count → get_or (graph_of s).latency i 0 ≡ get_or (graph_of s').latency i 0
  latency_same i h = at (dec_lt i (length s.ops))
    where
      at : Dec (i < length s.ops) → get_or (graph_of s).latency i 0 ≡ get_or (graph_of s').latency i 0
      at (yes l) = graph_latency s i l ∙ ap (λ (t : ResourceType). t.latency) (type_same i h) ∙ sym (graph_latency s' i (omega (arith, e.size)))
      at (no n) =
          let a = length-map s.ops (λ (o : Operation). (type_at s o.resource).latency) in
          let b = length-map s'.ops (λ (o : Operation). (type_at s' o.resource).latency) in
          get_or-eq_default (graph_of s).latency 0 (omega (arith, a)) ∙ sym (get_or-eq_default (graph_of s').latency 0 (omega (arith, b, e.size)))

  pub total_same : (L k : ℕ) → k < s.edge_count → total (graph_of s) L k ≡ total (graph_of s') L k
  total_same L k h =
      ap (λ (n : ℕ). total_of n (edge_at s k).delay (edge_at s k).distance L) (latency_same (edge_at s k).from (ok.each_edge k h).from)
      ∙ ap (λ (x : Edge). total_of (get_or (graph_of s').latency x.from 0) x.delay x.distance L) (e.each_edge k h)

  pub meets_same : {L : ℕ} {t : ℕ → ℤ} → Meets (graph_of s) L t → Meets (graph_of s') L t
  meets_same {L} {t} m = record {
    met = λ k h.
        let l : k < s.edge_count = omega (arith, e.edge_count) in
        subst (λ (x : Edge). (t x.from +ℤ total (graph_of s') L k) ≤ℤ t x.to) (e.each_edge k l)
        (subst (λ (z : ℤ). (t (edge_at s k).from +ℤ z) ≤ℤ t (edge_at s k).to) (total_same L k l) (m.met k l));
  }

  pub chain_same : {i j : ℕ} {ks : List ℕ} → Chain (graph_of s) i ks j → Chain (graph_of s') i ks j
  chain_same here = here
  chain_same (step {k} {j} {ks} l c) =
      let q = e.each_edge k l in
      subst (λ (x : ℕ). Chain (graph_of s') x (k ∷ ks) j) (sym (ap (λ (x : Edge). x.from) q))
      (step (omega (arith, e.edge_count)) (subst (λ (x : ℕ). Chain (graph_of s') x ks j) (ap (λ (x : Edge). x.to) q) (chain_same c)))

  pub sum_same : (L : ℕ) {i j : ℕ} {ks : List ℕ} → Chain (graph_of s) i ks j → sum (graph_of s) L ks ≡ sum (graph_of s') L ks
  unfolding sum
  sum_same L here = refl
  sum_same L (step {k} l c) = ap₂ (λ (x y : ℤ). x +ℤ y) (total_same L k l) (sum_same L c)

  pub bad_same : {L : ℕ} {ks : List ℕ} → BadWalk (graph_of s) L ks → BadWalk (graph_of s') L ks
  bad_same {L} b = record {
    at = b.at;
    chain = chain_same b.chain;
    non_empty = b.non_empty;
    positive = subst (λ (z : ℤ). pos 0 <ℤ z) (sum_same L b.chain) b.positive;
  }

module _ {s s' : Sheet} (e : SameSheet s s') (ok : InRange s) {L : ℕ} where
  pub first_walk_same : {ks : List ℕ} → FirstBadWalk (graph_of s) L ks → FirstBadWalk (graph_of s') L ks
  first_walk_same f = record { bad = bad_same e ok f.bad; first = λ js b. f.first js (bad_same (turn e) (range_same e ok) b) }

  pub feasible_same : Feasible s L → Feasible s' L
  feasible_same f p b = f p (bad_same (turn e) (range_same e ok) b)

-- ---- the questions, each with what follows

module _ {A : Type 0} {s s' : Sheet} (e : SameSheet s s') where
  pub on_sheet_same : (refused : ℕ → A) {Then Then' : A → Type 0} {a : A} → (InRange s → Then a → Then' a) → OnSheet refused s Then a → OnSheet refused s' Then' a
  on_sheet_same refused f (at_no n p) = at_no (λ o. n (range_same (turn e) o)) (p ∙ ap refused (answer_same e))
  on_sheet_same refused f (at_yes o t) = at_yes (range_same e o) (f o t)

  pub at_interval_same : (refused : ℕ → A) {L : ℕ} {Then Then' : A → Type 0} {a : A}
      → (InRange s → Interval s L → Then a → Then' a) → AtInterval refused s L Then a → AtInterval refused s' L Then' a
  at_interval_same refused {L} {Then} {Then'} {a} f x = on_sheet_same refused at x
    where
      at : InRange s → Asked (Interval s L) (λ b. b ≡ refused 4) Then a → Asked (Interval s' L) (λ b. b ≡ refused 4) Then' a
      at o (at_no n p) = at_no (λ i. n (interval_same (turn e) i)) p
      at o (at_yes i t) = at_yes (interval_same e i) (f o i t)

  pub if_feasible_same : (made : ℕ → List ℕ → A) {L : ℕ} {Then Then' : A → Type 0} {a : A}
      → InRange s → (Feasible s L → Then a → Then' a) → IfFeasible made s L Then a → IfFeasible made s' L Then' a
  if_feasible_same made ok f (at_no n p) = at_no (λ g. n (feasible_same (turn e) (range_same e ok) g)) (record {
    walk = p.walk;
    edges = p.edges;
    first = first_walk_same e ok p.first;
    padded = p.padded;
    pinned = p.pinned;
  })
  if_feasible_same made ok f (at_yes g t) = at_yes (feasible_same e ok g) (f g t)
