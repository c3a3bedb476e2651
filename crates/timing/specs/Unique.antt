-- At most one answer fits an input: the sheet and the interval tell each answer of the services. And the answer number
-- of the separations, which `bad_walk` gives, tells what their table holds. Assumes nothing.
use Rattle.std.specs.Prelude.{◌≡◌, refl, List, [], ℕ, ◌<◌, get_or, length, ℤ, pos}
use Rattle.std.proofs.Common.{sym, ap, ◌∙◌, arith, ext_get_or}
use Rattle.sizes.specs.Sizes.{most_operations}
use Rattle.laws.specs.Entry.{cell, zero_one}
use Rattle.dependence.specs.Answer.{zero_table, Separations, table_found}
use Rattle.dependence.specs.Unique.{earliest_one, separations_one}
use Rattle.constraints.specs.declared.loops.BadWalk as loops
use Rattle.sheet.specs.declared.Sheet.{Sheet}
use Rattle.sheet.specs.Sheet.{InRange, Interval, graph_of}
use Rattle.sheet.specs.Facts.{graph_in_range, interval_in_range}
use Rattle.sheet.specs.AnswerLaws.{sheet_out}
use Rattle.sheet.specs.Questions.{One, is_one, asked_one, on_sheet_one, at_interval_one, at_no, at_yes}
use Rattle.sheet.specs.Loop.{Feasible, loop_one}
use Rattle.timing.specs.Answers.{without_loop, starts_refused, starts_given, bound_refused, EarliestIn, WalkAt, StartsAt, SeparationsAt, LeastFeasible, RecurrenceAt}

answered : {w v : loops.BadWalk} → w ≡ v → w.answer ≡ v.answer
answered e = ap (λ (x : loops.BadWalk). x.answer) e

module _ {s : Sheet} {L : ℕ} where
  -- ---- the sheet's questions, 4 and 5

  pub walk_at_unique : One (WalkAt s L)
  walk_at_unique = at_interval_one without_loop (asked_one loop_one (is_one (without_loop 0)))

  -- ---- the earliest starts

  earliest_in_one : One (EarliestIn s L)
  earliest_in_one a b p q =
      p.pinned ∙ ap starts_given (zero_one p.rest q.rest (earliest_one (λ i _. refl) p.earliest q.earliest)) ∙ sym q.pinned

  pub starts_at_unique : One (StartsAt s L)
  starts_at_unique = at_interval_one starts_refused (asked_one loop_one earliest_in_one)

  -- ---- the separations

  -- one separation table, of as many rows, with as many cells each, as there are most operations
  pub separations_at_unique : {t u : List (List ℤ)} → length t ≡ most_operations → length u ≡ most_operations
      → ((i : ℕ) → i < most_operations → length (get_or t i []) ≡ most_operations) → ((i : ℕ) → i < most_operations → length (get_or u i []) ≡ most_operations)
      → SeparationsAt s L t → SeparationsAt s L u → t ≡ u
  separations_at_unique {t} {u} lt lu rt ru a b = at a b
    where
      one : InRange s → Interval s L → Feasible s L → Separations (graph_of s) L t → Separations (graph_of s) L u → t ≡ u
      one r i f x y =
          let g = graph_in_range r in
          let l = interval_in_range r i in
          let cells : (v j : ℕ) → v < most_operations → j < most_operations → cell t v j ≡ cell u v j = separations_one (table_found g l f x) (table_found g l f y) in
          ext_get_or [] t u (lt ∙ sym lu) (λ v h. let hv : v < most_operations = omega (arith, lt, h) in
          ext_get_or (pos 0) (get_or t v []) (get_or u v []) (rt v hv ∙ sym (ru v hv)) (λ j k. cells v j hv (omega (arith, rt v hv, k))))

      at : SeparationsAt s L t → SeparationsAt s L u → t ≡ u
      at (at_no _ p) (at_no _ q) = p ∙ sym q
      at (at_no n p) (at_yes r _) = absurd (n r)
      at (at_yes r _) (at_no n q) = absurd (n r)
      at (at_yes _ (at_no _ p)) (at_yes _ (at_no _ q)) = p ∙ sym q
      at (at_yes _ (at_no n p)) (at_yes _ (at_yes i _)) = absurd (n i)
      at (at_yes _ (at_yes i _)) (at_yes _ (at_no n q)) = absurd (n i)
      at (at_yes _ (at_yes _ (at_no _ p))) (at_yes _ (at_yes _ (at_no _ q))) = p ∙ sym q
      at (at_yes _ (at_yes _ (at_no n p))) (at_yes _ (at_yes _ (at_yes f _))) = absurd (n f)
      at (at_yes _ (at_yes _ (at_yes f _))) (at_yes _ (at_yes _ (at_no n q))) = absurd (n f)
      at (at_yes r (at_yes i (at_yes f x))) (at_yes _ (at_yes _ (at_yes _ y))) = one r i f x y

  -- the two functions of the separations: where `bad_walk` answers 0, the table holds the greatest sums, and where it
  -- refuses, every cell is 0
  pub separations_answered : {w : loops.BadWalk} {t : List (List ℤ)} → WalkAt s L w → SeparationsAt s L t
      → (w.answer ≡ 0 → Feasible s L × Separations (graph_of s) L t) × ((w.answer ≡ 0 → ⊥) → t ≡ zero_table)
  separations_answered (at_no n e) (at_no _ q) = (λ z. absurd (sheet_out s n (sym (answered e) ∙ z)), λ _. q)
  separations_answered (at_no n e) (at_yes r _) = absurd (n r)
  separations_answered (at_yes r _) (at_no n _) = absurd (n r)
  separations_answered (at_yes _ (at_no _ e)) (at_yes _ (at_no _ q)) = (λ z. absurd (omega (arith, z, answered e)), λ _. q)
  separations_answered (at_yes _ (at_no n e)) (at_yes _ (at_yes i _)) = absurd (n i)
  separations_answered (at_yes _ (at_yes i _)) (at_yes _ (at_no n _)) = absurd (n i)
  separations_answered (at_yes _ (at_yes _ (at_no _ l))) (at_yes _ (at_yes _ (at_no _ q))) = (λ z. absurd (omega (arith, z, answered l.pinned)), λ _. q)
  separations_answered (at_yes _ (at_yes _ (at_no n l))) (at_yes _ (at_yes _ (at_yes f _))) = absurd (n f)
  separations_answered (at_yes _ (at_yes _ (at_yes f _))) (at_yes _ (at_yes _ (at_no n _))) = absurd (n f)
  separations_answered (at_yes _ (at_yes _ (at_yes f e))) (at_yes _ (at_yes _ (at_yes _ x))) = (λ _. (f, x), λ n. absurd (n (answered e)))

-- ---- the recurrence bound

least_feasible_one : {s : Sheet} → One (LeastFeasible s)
least_feasible_one a b p q =
    let x = p.least q.at q.interval q.feasible in
    let y = q.least p.at p.interval p.feasible in
    let e : p.at ≡ q.at = omega arith in
    p.pinned ∙ ap (λ (n : ℕ). record { answer = 0; value = n }) e ∙ sym q.pinned

pub recurrence_at_unique : {s : Sheet} → One (RecurrenceAt s)
recurrence_at_unique = on_sheet_one bound_refused (asked_one (is_one (bound_refused 8)) least_feasible_one)
