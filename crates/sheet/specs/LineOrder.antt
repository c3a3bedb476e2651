-- Laws: the order of the lines decides. The line of an operation that refuses, after lines that did not, answers for
-- the sheet, whatever later lines hold: 16 of an earlier operation goes before 3 of a later one, 3 of an earlier one
-- before 16 of a later one, and 3 before 16 in one line. Assumes nothing.
use Rattle.std.specs.Prelude.{◌≡◌, ℕ, ◌<◌}
use Rattle.std.proofs.Common.{ap, ◌∙◌, arith}
use Rattle.sheet.specs.declared.Sheet.{Sheet}
use Rattle.sheet.specs.Ranges as range
use Rattle.sheet.specs.Sheet.{op_at, OpInRange, NonEmptyWindow}
use Rattle.sheet.specs.Answer.{first, first_of, number_answer, op_answer, types_answer, ops_answer, edges_answer, sheet_answer}
use Rattle.sheet.specs.AnswerLaws.{op_judged, op_out, op_empty, first_stop, first_on, first_at_lem, first_all}

-- no line before that of operation i refuses
pub record AcceptedBefore (s : Sheet) (i : ℕ) : Type 0 where
  pub horizon : number_answer range.horizon s.horizon ≡ 0
  pub cap : number_answer range.cap s.cap ≡ 0
  pub types : types_answer s ≡ 0
  pub count : number_answer range.operations s.op_count ≡ 0
  pub ops : (j : ℕ) → j < i → OpInRange s.type_count s.horizon (op_at s j) × NonEmptyWindow (op_at s j)

module _ (s : Sheet) (i : ℕ) (l : i < s.op_count) (before : AcceptedBefore s i) where
  abbrev answer_at : ℕ → ℕ
  answer_at j = op_answer s.type_count s.horizon (op_at s j)

  decides : (answer_at i ≡ 0 → ⊥) → sheet_answer s ≡ answer_at i
  unfolding sheet_answer
  decides x =
      let lines : first_of i answer_at ≡ 0 = first_all answer_at i (λ j k. (op_judged s.type_count s.horizon (op_at s j)).accepts (before.ops j k)) in
      let section : ops_answer s ≡ answer_at i = first_on (number_answer range.operations s.op_count) _ before.count (first_at_lem answer_at s.op_count i l lines x) in
      first_on (number_answer range.horizon s.horizon) _ before.horizon
      (first_on (number_answer range.cap s.cap) _ before.cap
      (first_on (types_answer s) _ before.types
      (ap (λ (a : ℕ). first a (edges_answer s)) section ∙ first_stop (answer_at i) (edges_answer s) x)))

  pub empty_window : OpInRange s.type_count s.horizon (op_at s i) → (NonEmptyWindow (op_at s i) → ⊥) → sheet_answer s ≡ 16
  empty_window r w =
      let e : answer_at i ≡ 16 = op_empty s.type_count s.horizon (op_at s i) r w in
      decides (λ z. absurd (omega (arith, e, z))) ∙ e

  pub out_of_range : (OpInRange s.type_count s.horizon (op_at s i) → ⊥) → sheet_answer s ≡ 3
  out_of_range r =
      let e : answer_at i ≡ 3 = op_out s.type_count s.horizon (op_at s i) r in
      decides (λ z. absurd (omega (arith, e, z))) ∙ e
