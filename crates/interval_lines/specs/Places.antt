-- Laws of the lines of one interval: how many they are, and which stands where.
-- Assumes nothing.
use Rattle.std.specs.Prelude.{◌≡◌, List, [], ◌∷◌, take}
use Rattle.std.proofs.Math.Path.{ap}
use Rattle.std.proofs.Common.{◌∙◌}
use Prim.Native.Nat.{ℕ, suc, ◌+◌, ◌-◌, ◌≤◌, ◌<◌}
use native.Mathlib.Omega.{arith}
use Rattle.std.proofs.Math.Decide.{dec_lt}
use Rattle.std.proofs.Math.ListN.{length, get_or}
use borrow.Author.Tests.{eq-eqb, ne_eqb}
use Rattle.laws.specs.Entry.{vec}
use Rattle.laws.specs.Each.{each, each_length, each_at}
use Rattle.text.specs.Lines.{Line, no_line}
use Rattle.text.specs.Answers.{answer_line, interval_line, loop_line, at_line}
use Rattle.sheet.specs.declared.Sheet.{Sheet}
use Rattle.plan.specs.declared.PlanAnswer.{PlanAnswer}
use Rattle.interval_lines.specs.IntervalLines.{detail, interval_lines}

-- the answer and the interval come first
abbrev pub head_lines : ℕ
head_lines = 2

module _ (s : Sheet) (L : ℕ) (a : PlanAnswer) where
  pub detail_0 : a.answer ≡ 0 → detail s a ≡ each s.op_count (λ i. at_line (vec a.starts i) (vec a.instances i))
  unfolding detail
  detail_0 e = rw (eq-eqb a.answer 0 e)

  pub detail_5 : a.answer ≡ 5 → detail s a ≡ loop_line (take a.loop_length a.loop_edges) ∷ []
  unfolding detail
  detail_5 e = rw (ne_eqb a.answer 0 (λ z. omega arith), eq-eqb a.answer 5 e)

  pub detail_else : (a.answer ≡ 0 → ⊥) → (a.answer ≡ 5 → ⊥) → detail s a ≡ []
  unfolding detail
  detail_else e f = rw (ne_eqb a.answer 0 e, ne_eqb a.answer 5 f)

  pub count_0 : a.answer ≡ 0 → length (interval_lines s L a) ≡ head_lines + s.op_count
  unfolding interval_lines
  count_0 e = let n = ap length (detail_0 e) ∙ each_length s.op_count (λ i. at_line (vec a.starts i) (vec a.instances i)) in omega arith

  pub count_5 : a.answer ≡ 5 → length (interval_lines s L a) ≡ head_lines + 1
  unfolding interval_lines
  count_5 e = let n = ap length (detail_5 e) in omega arith

  pub count_else : (a.answer ≡ 0 → ⊥) → (a.answer ≡ 5 → ⊥) → length (interval_lines s L a) ≡ head_lines
  unfolding interval_lines
  count_else e f = let n = ap length (detail_else e f) in omega arith

  pub answer_place : (i : ℕ) → i ≡ 0 → get_or (interval_lines s L a) i no_line ≡ answer_line a.answer
  unfolding interval_lines
  answer_place i e = ap (λ (k : ℕ). get_or (answer_line a.answer ∷ interval_line L ∷ detail s a) k no_line) e

  pub interval_place : (i : ℕ) → i ≡ 1 → get_or (interval_lines s L a) i no_line ≡ interval_line L
  unfolding interval_lines
  interval_place i e = ap (λ (k : ℕ). get_or (answer_line a.answer ∷ interval_line L ∷ detail s a) k no_line) e

  past_two : (i : ℕ) → head_lines ≤ i → get_or (interval_lines s L a) i no_line ≡ get_or (detail s a) (i - head_lines) no_line
  unfolding interval_lines
  past_two i h = let e : i ≡ suc (suc (i - head_lines)) = omega arith in ap (λ (k : ℕ). get_or (answer_line a.answer ∷ interval_line L ∷ detail s a) k no_line) e

  pub loop_place : (i : ℕ) → a.answer ≡ 5 → i ≡ head_lines → get_or (interval_lines s L a) i no_line ≡ loop_line (take a.loop_length a.loop_edges)
  loop_place i e f =
      past_two i (omega arith) ∙ ap (λ (ls : List Line). get_or ls (i - head_lines) no_line) (detail_5 e)
      ∙ (let z : i - 2 ≡ 0 = omega arith in ap (λ (k : ℕ). get_or (loop_line (take a.loop_length a.loop_edges) ∷ []) k no_line) z)

  pub at_place : (i : ℕ) → a.answer ≡ 0 → head_lines ≤ i → i - head_lines < s.op_count → get_or (interval_lines s L a) i no_line ≡ at_line (vec a.starts (i - head_lines)) (vec a.instances (i - head_lines))
  at_place i e h g =
      past_two i h ∙ ap (λ (ls : List Line). get_or ls (i - head_lines) no_line) (detail_0 e)
      ∙ each_at s.op_count (λ k. at_line (vec a.starts k) (vec a.instances k)) (i - head_lines) no_line g

  -- past the first two lines, with no loop, there is a plan
  pub only_plan : (i : ℕ) → i < length (interval_lines s L a) → (a.answer ≡ 5 → ⊥) → head_lines ≤ i → (a.answer ≡ 0) × (i - head_lines < s.op_count)
  only_plan i h n g = at (dec_lt 0 a.answer)
    where
      at : Dec (0 < a.answer) → (a.answer ≡ 0) × (i - head_lines < s.op_count)
      at (yes p) = let c = count_else (λ z. omega arith) n in absurd (omega arith)
      at (no p) = let z : a.answer ≡ 0 = omega arith in let c = count_0 z in (z, omega arith)
