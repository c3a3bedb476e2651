-- From what the dependence part answers of a sheet's graph to what the services answer. Assumes nothing.
use Rattle.std.specs.Prelude.{◌≡◌, List, ℕ, ◌<◌, ◌≤◌, length, ℤ}
use Rattle.std.proofs.Common.{arith}
use Rattle.std.proofs.Math.Decide.{dec_lt}
use Rattle.std.proofs.Math.ListN.{get_or-eq_default}
use Rattle.sizes.specs.Sizes.{most_operations}
use Rattle.laws.specs.Entry.{vec}
use Rattle.dependence.specs.Answer.{WalkAnswer, walk_three, walk_four, walk_five, walk_none, StartsAnswer, starts_three, starts_four, starts_five, starts_found, TableAnswer, table_refused_lem, table_bad, table_found, Separations, BoundAnswer, bound_three, bound_eight, bound_found}
use Rattle.constraints.specs.declared.loops.BadWalk as loops
use Rattle.constraints.specs.declared.starts.Starts as starts
use Rattle.constraints.specs.declared.bound.Bound as bounds
use Rattle.sheet.specs.declared.Sheet.{Sheet}
use Rattle.sheet.specs.Sheet.{InRange, Interval, graph_of}
use Rattle.sheet.specs.Facts.{graph_in_range, interval_in_range, cap_in_range, horizon_most, lo_below}
use Rattle.sheet.specs.Questions.{at_no, at_yes, Accepted, goes_on}
use Rattle.sheet.specs.Loop.{Feasible, loop_made, sheet_exactly}
use Rattle.timing.specs.Floors.{Floors}
use Rattle.timing.specs.Answers.{without_loop, starts_refused, table_refused, WalkAt, StartsAt, SeparationsAt, IfSomeFeasible}

module _ (s : Sheet) (L : ℕ) (y : Accepted s L) where
  ok : InRange s
  ok = y.sheet

  iv : Interval s L
  iv = y.interval

  pub walk_at : (w : loops.BadWalk) → length w.loop_edges ≡ most_operations → WalkAnswer (graph_of s) L w.answer w.loop_length w.loop_edges → WalkAt s L w
  walk_at w l (walk_three _ _ _ n) = absurd (n (graph_in_range ok))
  walk_at w l (walk_four _ _ _ _ n) = absurd (n (interval_in_range ok iv))
  walk_at w l (walk_five a _ _ r) =
      goes_on without_loop y (at_no (λ f. f _ r.first.bad) (loop_made ok l r (λ k. record { answer = a k; loop_length = w.loop_length; loop_edges = w.loop_edges })))
  walk_at w l (walk_none a z e _ _ n) = goes_on without_loop y (at_yes n (λ k. record { answer = a k; loop_length = z k; loop_edges = e k }))

  pub starts_at : (w : starts.Starts) (floor : List ℕ) → Floors s.ops floor → length w.starts ≡ most_operations → length w.loop_edges ≡ most_operations
      → StartsAnswer (graph_of s) L floor w.answer w.starts w.loop_length w.loop_edges → StartsAt s L w
  starts_at w floor f lt le (starts_three _ _ _ _ n) = absurd (n (graph_in_range ok, record { within = λ i h. omega (arith, f.each i, lo_below ok i h, horizon_most ok) }))
  starts_at w floor f lt le (starts_four _ _ _ _ _ _ n) = absurd (n (interval_in_range ok iv))
  starts_at w floor f lt le (starts_five a t _ _ _ r) =
      goes_on starts_refused y (at_no (λ f. f _ r.first.bad) (loop_made ok le r (λ k. record { answer = a k; starts = t k; loop_length = w.loop_length; loop_edges = w.loop_edges })))
  starts_at w floor f lt le (starts_found a z e _ _ _ t rest) =
      goes_on starts_refused y (at_yes (λ p b. (sheet_exactly ok iv).no_starts p b _ t.meets) (record {
        starts = w.starts;
        earliest = record {
          above = λ i h. omega (arith, f.each i, t.above i h);
          meets = t.meets;
          least = λ x h m i l. t.least x (λ j q. omega (arith, f.each j, h j q)) m i l;
        };
        rest = record { whole = lt; rest = λ i h. past i h (dec_lt i most_operations) };
        pinned = λ k. record { answer = a k; starts = w.starts; loop_length = z k; loop_edges = e k };
      }))
    where
      past : (i : ℕ) → s.op_count ≤ i → Dec (i < most_operations) → vec w.starts i ≡ 0
      past i h (yes q) = rest i h q
      past i h (no q) = get_or-eq_default w.starts 0 (omega arith)

  pub separations_at : {t : List (List ℤ)} → TableAnswer (graph_of s) L (Separations (graph_of s) L) t → SeparationsAt s L t
  separations_at (table_refused_lem _ n) = absurd (n (graph_in_range ok, interval_in_range ok iv))
  separations_at (table_bad e _ _ p b) = goes_on table_refused y (at_no (λ f. f p b) e)
  separations_at (table_found _ _ f t) = goes_on table_refused y (at_yes f t)

pub recurrence_at : (s : Sheet) → InRange s → (b : bounds.Bound) → BoundAnswer (graph_of s) s.cap b.answer b.value → IfSomeFeasible s b
recurrence_at s ok b (bound_three _ _ n) = absurd (n (graph_in_range ok, cap_in_range ok))
recurrence_at s ok b (bound_eight a z _ _ f) =
    at_no (λ x. let w = f x.at x.interval.low x.interval.high in x.feasible w.0 w.1) (λ k. record { answer = a k; value = z k })
recurrence_at s ok b (bound_found a _ _ l h n f) = at_yes (record { at = b.value; interval = record { low = l; high = h }; feasible = n }) (record {
  at = b.value;
  interval = record { low = l; high = h };
  feasible = n;
  least = λ L i g. at_least L i g (dec_lt L b.value);
  pinned = λ k. record { answer = a k; value = b.value };
})
  where
    at_least : (L : ℕ) → Interval s L → Feasible s L → Dec (L < b.value) → b.value ≤ L
    at_least L i g (yes q) = let w = f L i.low q in absurd (g w.0 w.1)
    at_least L i g (no q) = omega arith
