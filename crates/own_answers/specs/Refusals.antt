-- A sheet answers 0, 3 or 16; so where the plan at an interval answers 5 or 6, the sheet and the interval are accepted,
-- and 5 is that of the first bad closed walk. Assumes nothing.
use Prim.Native.Nat.{ℕ, zero, suc}
use Rattle.std.proofs.Common.{arith, sym, ap, ◌∙◌}
use Rattle.std.specs.Prelude.{◌≡◌}
use Rattle.sheet.specs.declared.Sheet.{Sheet}
use Rattle.sheet.specs.Ranges as range
use Rattle.sheet.specs.Sheet.{type_at, op_at, edge_at}
use Rattle.sheet.specs.Decide.{inside_decided, type_decided, op_decided, window_decided, edge_decided}
use Rattle.sheet.specs.Answer.{ask, first, first_of, number_answer, type_answer, op_answer, edge_answer}
use Rattle.sheet.specs.Answer.{types_answer, ops_answer, edges_answer, sheet_answer}
use Rattle.sheet.specs.Questions.{at_no, at_yes, Accepted}
use Rattle.sheet.specs.Loop.{Loop}
use Rattle.plan.specs.declared.PlanAnswer.{PlanAnswer}
use Rattle.plan.specs.Answers.{looped, PlanAt}

-- ---- what holds of 0, 3 and 16 holds of what a sheet answers

module _ (F : ℕ → Type 0) (none : F 0) (three : F 3) (sixteen : F 16) where
  asked : {P : Type 0} (d : Dec P) (n rest : ℕ) → F n → F rest → F (ask d n rest)
  asked (yes p) n rest x y = y
  asked (no q) n rest x y = x

  first_of_two : (a b : ℕ) → F a → F b → F (first a b)
  first_of_two zero b x y = y
  first_of_two (suc a) b x y = x

  first_of_all : (n : ℕ) (f : ℕ → ℕ) → ((k : ℕ) → F (f k)) → F (first_of n f)
  unfolding first_of
  first_of_all zero f h = none
  first_of_all (suc n) f h = first_of_two (first_of n f) (f n) (first_of_all n f h) (h n)

  number_is : (field n : ℕ) → F (number_answer field n)
  unfolding number_answer
  number_is field n = asked (inside_decided field _) 3 0 three none

  -- a count, then as many lines
  section_is : (field n : ℕ) (f : ℕ → ℕ) → ((k : ℕ) → F (f k)) → F (first (number_answer field n) (first_of n f))
  section_is field n f h = first_of_two (number_answer field n) (first_of n f) (number_is field n) (first_of_all n f h)

  sheet_is : (s : Sheet) → F (sheet_answer s)
  unfolding sheet_answer type_answer op_answer edge_answer
  sheet_is s =
      let t = section_is range.types s.type_count (λ r. type_answer (type_at s r))
      (λ r. asked (type_decided (type_at s r)) 3 0 three none) in
      let o = section_is range.operations s.op_count (λ i. op_answer s.type_count s.horizon (op_at s i))
      (λ i. asked (op_decided s.type_count s.horizon (op_at s i)) 3 _ three
      (asked (window_decided (op_at s i)) 16 0 sixteen none)) in
      let e = section_is range.edges s.edge_count (λ k. edge_answer s.op_count (edge_at s k))
      (λ k. asked (edge_decided s.op_count (edge_at s k)) 3 0 three none) in
      first_of_two (number_answer range.horizon s.horizon) _ (number_is range.horizon s.horizon)
      (first_of_two (number_answer range.cap s.cap) _ (number_is range.cap s.cap)
      (first_of_two (types_answer s) _ t (first_of_two (ops_answer s) (edges_answer s) o e)))

-- ---- so a plan's answer 5 or 6 is of an accepted sheet

answered : {a b : PlanAnswer} → a ≡ b → a.answer ≡ b.answer
answered e = ap (λ (x : PlanAnswer). x.answer) e

no_five : (s : Sheet) → sheet_answer s ≡ 5 → ⊥
no_five = sheet_is (λ n. n ≡ 5 → ⊥) (λ e. omega arith) (λ e. omega arith) (λ e. omega arith)

no_six : (s : Sheet) → sheet_answer s ≡ 6 → ⊥
no_six = sheet_is (λ n. n ≡ 6 → ⊥) (λ e. omega arith) (λ e. omega arith) (λ e. omega arith)

module _ {s : Sheet} {L : ℕ} {a : PlanAnswer} where
  pub five_loop : PlanAt s L a → a.answer ≡ 5 → Accepted s L × Loop s L looped a
  five_loop (at_no _ p) z = absurd (no_five s (sym (answered p) ∙ z))
  five_loop (at_yes _ (at_no _ p)) z = absurd (omega (arith, z, answered p))
  five_loop (at_yes ok (at_yes iv (at_no _ l))) z = (record { sheet = ok; interval = iv }, l)
  five_loop (at_yes _ (at_yes _ (at_yes _ (at_no _ p)))) z = absurd (omega (arith, z, answered p))
  five_loop (at_yes _ (at_yes _ (at_yes _ (at_yes _ g)))) z = absurd (omega (arith, z, answered g.pinned))

  pub six_accepted : PlanAt s L a → a.answer ≡ 6 → Accepted s L
  six_accepted (at_no _ p) z = absurd (no_six s (sym (answered p) ∙ z))
  six_accepted (at_yes _ (at_no _ p)) z = absurd (omega (arith, z, answered p))
  six_accepted (at_yes ok (at_yes iv _)) z = record { sheet = ok; interval = iv }
