-- Entries past R, N or E are no part of a sheet: sheets that differ only there get the same answers of the timing
-- services. Assumes nothing.
use Rattle.std.specs.Prelude.{◌≡◌, List, ℕ, ◌<◌, ℤ, ◌≤ℤ◌}
use Rattle.std.proofs.Common.{sym, ap, subst, ◌∙◌, arith}
use Rattle.laws.specs.Entry.{ZeroFrom}
use Rattle.dependence.specs.Rules.{Earliest, Separation}
use Rattle.dependence.specs.Answer.{Cell, cell_none, cell_some}
use Rattle.constraints.specs.declared.loops.BadWalk as loops
use Rattle.constraints.specs.declared.starts.Starts as starts
use Rattle.constraints.specs.declared.bound.Bound as bounds
use Rattle.sheet.specs.declared.Sheet.{Sheet}
use Rattle.sheet.specs.declared.Operation.{Operation}
use Rattle.sheet.specs.Sheet.{InRange, op_at, graph_of}
use Rattle.sheet.specs.Questions.{at_no, at_yes}
use Rattle.sheet.specs.Entries.{SameSheet, turn, range_same, interval_same, meets_same, chain_same, sum_same, feasible_same, on_sheet_same, at_interval_same, if_feasible_same}
use Rattle.timing.specs.Answers.{without_loop, with_loop, starts_refused, starts_loop, table_refused, bound_refused, WalkAt, StartsAt, IfSeparations, SeparationsAt, SomeFeasible, IfSomeFeasible, RecurrenceAt}

module _ {s s' : Sheet} (e : SameSheet s s') where
  lo_same : {i : ℕ} → i < s.op_count → (op_at s i).lo ≡ (op_at s' i).lo
  lo_same {i} h = ap (λ (o : Operation). o.lo) (e.each_op i h)

module _ {s s' : Sheet} (e : SameSheet s s') (ok : InRange s) {L : ℕ} where
  earliest_same : {t : ℕ → ℕ} → Earliest (graph_of s) L (λ i. (op_at s i).lo) t → Earliest (graph_of s') L (λ i. (op_at s' i).lo) t
  earliest_same x = record {
    above = λ i h. let l : i < s.op_count = omega (arith, e.op_count) in omega (arith, lo_same e l, x.above i l);
    meets = meets_same e ok x.meets;
    least = λ r o m i h. x.least r (λ j k. omega (arith, lo_same e k, o j (omega (arith, e.op_count)))) (meets_same (turn e) (range_same e ok) m) i (omega (arith, e.op_count));
  }

  separation_same : {i j : ℕ} {z : ℤ} → Separation (graph_of s) L i j z → Separation (graph_of s') L i j z
  separation_same {z = z} x = record {
    walk = x.walk;
    non_empty = x.non_empty;
    chain = chain_same e ok x.chain;
    attained = sym (sum_same e ok L x.chain) ∙ x.attained;
    greatest = λ ks l c. subst (λ (y : ℤ). y ≤ℤ z) (sym (sum_same (turn e) (range_same e ok) L c)) (x.greatest ks l (chain_same (turn e) (range_same e ok) c));
  }

  cell_same : {i j : ℕ} {z : ℤ} → Cell (graph_of s) L i j z → Cell (graph_of s') L i j z
  cell_same (cell_none q n) = cell_none q (λ p l c. n p l (chain_same (turn e) (range_same e ok) c))
  cell_same (cell_some h x) = cell_some h (separation_same x)

module _ {s s' : Sheet} (e : SameSheet s s') where
  pub walk_at_same : {L : ℕ} {w : loops.BadWalk} → WalkAt s L w → WalkAt s' L w
  walk_at_same = at_interval_same e without_loop (λ ok i. if_feasible_same e with_loop ok (λ f p. p))

  pub starts_at_same : {L : ℕ} {w : starts.Starts} → StartsAt s L w → StartsAt s' L w
  starts_at_same = at_interval_same e starts_refused (λ ok i. if_feasible_same e starts_loop ok (λ f x. record {
    starts = x.starts;
    earliest = earliest_same e ok x.earliest;
    rest = subst (λ (n : ℕ). ZeroFrom n x.starts) e.op_count x.rest;
    pinned = x.pinned;
  }))

  pub separations_at_same : {L : ℕ} {t : List (List ℤ)} → SeparationsAt s L t → SeparationsAt s' L t
  separations_at_same {L} {t} = at_interval_same e table_refused (λ ok i. table_same ok)
    where
      table_same : InRange s → IfSeparations s L t → IfSeparations s' L t
      table_same ok (at_no n p) = at_no (λ f. n (feasible_same (turn e) (range_same e ok) f)) p
      table_same ok (at_yes f x) = at_yes (feasible_same e ok f) (record { cells = λ a b h k. cell_same e ok (x.cells a b h k) })

  pub recurrence_at_same : {b : bounds.Bound} → RecurrenceAt s b → RecurrenceAt s' b
  recurrence_at_same = on_sheet_same e bound_refused some_same
    where
      some : {a b : Sheet} → SameSheet a b → InRange a → SomeFeasible a → SomeFeasible b
      some q ok x = record { at = x.at; interval = interval_same q x.interval; feasible = feasible_same q ok x.feasible }

      some_same : {b : bounds.Bound} → InRange s → IfSomeFeasible s b → IfSomeFeasible s' b
      some_same ok (at_no n p) = at_no (λ x. n (some (turn e) (range_same e ok) x)) p
      some_same ok (at_yes x g) = at_yes (some e ok x) (record {
        at = g.at;
        interval = interval_same e g.interval;
        feasible = feasible_same e ok g.feasible;
        least = λ L i h. g.least L (interval_same (turn e) i) (feasible_same (turn e) (range_same e ok) h);
        pinned = g.pinned;
      })
