-- How many bytes the lines of one interval have at most, and laws that they have no more.
-- Assumes nothing.
use Rattle.std.specs.Prelude.{◌≡◌, List, [], ◌∷◌, map, ℕ, zero, suc, ◌+◌, ◌*◌, ◌≤◌, ◌<◌, pos, length, take}
use Rattle.std.proofs.Common.{ap, length-take}
use native.Mathlib.Omega.{arith}
use Rattle.std.proofs.Math.Decide.{dec_lt}
use Rattle.std.proofs.lemmas.List.{length-map}
use Rattle.sizes.specs.Sizes.{most_operations}
use Rattle.laws.specs.Entry.{vec}
use Rattle.laws.specs.Each.{each}
use Rattle.text.specs.Sizes.{three_digits}
use Rattle.text.specs.Keys as key
use Rattle.text.specs.Lines.{Line, lines_text}
use Rattle.text.specs.Bounds.{Within, line_most, number_most, number_most_lem, one_most, answer_most_lem, cons_length, nil_length}
use Rattle.text.specs.Answers.{answer_line, interval_line, loop_line, at_line, refusal_text}
use Rattle.sheet.specs.declared.Sheet.{Sheet}
use Rattle.plan.specs.declared.PlanAnswer.{PlanAnswer}
use Rattle.interval_lines.specs.IntervalLines.{detail, interval_lines}
use Rattle.interval_lines.specs.Small.{SmallList, SmallAnswer}
use Rattle.interval_lines.specs.Places.{detail_0, detail_5, detail_else}

-- the line `answer=`
abbrev pub answer_most : ℕ
answer_most = length key.answer_key + number_most

-- that line and `interval=`
abbrev head_most : ℕ
head_most = answer_most + (length key.interval_key + number_most)

-- `at=` with two numbers
abbrev at_most : ℕ
at_most = length key.at_key + number_most * 2

-- with a plan: the first two lines, and one for each operation
abbrev pub plan_most : ℕ
plan_most = head_most + at_most * most_operations

-- `loop=` with a number for each operation
abbrev loop_most : ℕ
loop_most = length key.loop_key + number_most * most_operations

-- with a refusal: the first two lines, and at most a loop
abbrev pub refusal_most : ℕ
refusal_most = head_most + loop_most

-- ---- one line

numbers_within : (ks : List ℕ) → SmallList ks → Within 3 (map pos ks)
numbers_within [] h = tt
numbers_within (k ∷ ks) h = (number_most_lem k (h 0), numbers_within ks (λ i. h (suc i)))

each_most : (n : ℕ) (t u : ℕ → ℕ) → ((i : ℕ) → t i ≤ three_digits) → ((i : ℕ) → u i ≤ three_digits)
    → length (lines_text (each n (λ i. at_line (t i) (u i)))) ≤ at_most * n
unfolding each
each_most zero t u f g = let z = nil_length in omega arith
each_most (suc n) t u f g =
    let a = cons_length (at_line (t 0) (u 0)) (each n (λ i. at_line (t (suc i)) (u (suc i)))) in
    let b = line_most 3 (at_line (t 0) (u 0)).key (pos (t 0) ∷ pos (u 0) ∷ []) (number_most_lem (t 0) (f 0), (number_most_lem (u 0) (g 0), tt)) in
    let c = each_most n (λ i. t (suc i)) (λ i. u (suc i)) (λ i. f (suc i)) (λ i. g (suc i)) in
    omega arith

take_small : (n : ℕ) (ks : List ℕ) → SmallList ks → SmallList (take n ks)
take_small zero ks h i = omega arith
take_small (suc n) [] h i = omega arith
take_small (suc n) (k ∷ ks) h zero = h 0
take_small (suc n) (k ∷ ks) h (suc i) = take_small n ks (λ j. h (suc j)) i

-- ---- the lines of an interval

module _ (s : Sheet) (L : ℕ) (a : PlanAnswer) (small : SmallAnswer s L a) where
  head_most_lem : length (lines_text (interval_lines s L a)) ≤ head_most + length (lines_text (detail s a))
  unfolding interval_lines
  head_most_lem =
      let p = cons_length (answer_line a.answer) (interval_line L ∷ detail s a) in
      let q = cons_length (interval_line L) (detail s a) in
      let x = one_most (answer_line a.answer).key a.answer small.answer in
      let y = one_most (interval_line L).key L small.interval in
      omega arith

  plan_most_lem : a.answer ≡ 0 → length (lines_text (interval_lines s L a)) ≤ plan_most
  plan_most_lem e =
      let h = head_most_lem in
      let d = ap (λ (ls : List Line). length (lines_text ls)) (detail_0 s L a e) in
      let b = each_most s.op_count (vec a.starts) (vec a.instances) small.starts small.instances in
      let o = small.ops in
      omega arith

  loop_most_lem : length (lines_text (loop_line (take a.loop_length a.loop_edges) ∷ [])) ≤ loop_most
  loop_most_lem =
      let ks = take a.loop_length a.loop_edges in
      let c = cons_length (loop_line ks) [] in
      let z = nil_length in
      let l = line_most 3 (loop_line ks).key (map pos ks) (numbers_within ks (take_small a.loop_length a.loop_edges small.edges)) in
      let m = length-map ks pos in
      let t = length-take a.loop_length a.loop_edges in
      let w = small.room in
      omega arith

  pub refusal_most_lem : (a.answer ≡ 0 → ⊥) → length (lines_text (interval_lines s L a)) ≤ refusal_most
  refusal_most_lem n = at (dec_lt a.answer 5) (dec_lt 5 a.answer)
    where
      other : (a.answer ≡ 5 → ⊥) → length (lines_text (interval_lines s L a)) ≤ refusal_most
      other e =
          let h = head_most_lem in
          let d = ap (λ (ls : List Line). length (lines_text ls)) (detail_else s L a n e) in
          let z = nil_length in
          omega arith

      at : Dec (a.answer < 5) → Dec (5 < a.answer) → length (lines_text (interval_lines s L a)) ≤ refusal_most
      at (yes p) q = other (λ e. omega arith)
      at (no p) (yes q) = other (λ e. omega arith)
      at (no p) (no q) =
          let h = head_most_lem in
          let d = ap (λ (ls : List Line). length (lines_text ls)) (detail_5 s L a (omega arith)) in
          let b = loop_most_lem in
          omega arith

  -- whichever the answer is
  pub lines_most : length (lines_text (interval_lines s L a)) ≤ plan_most
  lines_most = at (dec_lt 0 a.answer)
    where
      at : Dec (0 < a.answer) → length (lines_text (interval_lines s L a)) ≤ plan_most
      at (yes p) = let b = refusal_most_lem (λ z. omega arith) in omega arith
      at (no p) = plan_most_lem (omega arith)

-- ---- the line `answer=` alone

-- its bytes, whichever the answer is
pub answer_short : {n r : ℕ} → n ≤ three_digits → r ≡ length (refusal_text n) → r ≤ answer_most
answer_short {n} h e = let b = answer_most_lem n h in omega arith
