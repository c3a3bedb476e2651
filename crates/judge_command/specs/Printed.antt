-- Laws of the one line that is printed.
-- Assumes nothing.
use Rattle.std.specs.Prelude.{◌≡◌, refl, List, [], ◌∷◌, ◌++◌, ℕ, ◌≤◌, min, pos}
use Rattle.std.proofs.Common.{sym, ap, ◌∙◌, arith}
use Rattle.text.specs.declared.Line.{Line}
use Rattle.text.specs.declared.Written.{Written}
use Rattle.text.specs.Keys.{answer_key}
use Rattle.text.specs.Sizes.{three_digits, greatest_number}
use Rattle.text.specs.Text.{line_text, buffer_of}
use Rattle.text.specs.Line.{text_of, written_of}
use Rattle.text.specs.Answers.{answer_line}
use Rattle.text.specs.Bounds.{answer_most_lem}
use Rattle.text.specs.Filling.{one_line}
use Rattle.text.specs.Joined.{one_number}
use Rattle.text.specs.PutLaws.{put_as}
use Rattle.lines.specs.declared.Lines.{Lines}
use Rattle.lines.specs.Lines.{shown, no_lines, with_line}
use Rattle.lines.specs.Shown.{none_shown, none_count, none_whole, with_shown}
use Rattle.sheet.specs.declared.Sheet.{Sheet}
use Rattle.sheet.specs.Questions.{at_no, at_yes}
use Rattle.reader.specs.Read.{read_of}
use Rattle.round_trip.proofs.Reading.{read_small, read_in_range}
use Rattle.judge.specs.Text.{AnswerRead, plan, denial, unreadable, answer_of}
use Rattle.judge.specs.Answers.{Claimed, Judged}
use Rattle.judge.specs.Bytes.{JudgeOf}
use Rattle.judge_command.specs.Prints.{Answered}

-- a number that judges has at most three digits
claimed_small : {s : Sheet} {L n : ℕ} {P : Type 0} → Claimed s L P n → n ≤ three_digits
claimed_small (at_no x e) = omega (arith, e)
claimed_small (at_yes i (at_no x e)) = omega (arith, e)
claimed_small (at_yes i (at_yes p e)) = omega (arith, e)

judged_small : (s : Sheet) (x : AnswerRead) {n : ℕ} → Judged s x n → n ≤ three_digits
judged_small s (plan L ts us) j = claimed_small j
judged_small s (denial L t) j = claimed_small j
judged_small s (unreadable l) e = omega (arith, e)

module _ (bytes given : List ℕ) where
  small : {n : ℕ} → JudgeOf bytes given n → n ≤ three_digits
  small (at_no x e) = omega (arith, e, read_small bytes)
  small (at_yes y (at_no x e)) = absurd (x (read_in_range bytes y))
  small (at_yes y (at_yes i j)) = let s = (read_of bytes).sheet in judged_small s (answer_of s.op_count s.edge_count given) j

  -- a list of its line alone, put into the buffer
  pub printed : {n : ℕ} → JudgeOf bytes given n → (l : Line) → text_of l ≡ line_text answer_key (pos (min n greatest_number) ∷ [])
      → {ls : Lines} {old new : List ℕ} {r : Written} → ls ≡ with_line no_lines l → r ≡ written_of (shown ls) old → new ≡ buffer_of (shown ls) old → Answered bytes given old r new
  printed {n} j l e q =
      let few = small j in
      put_as
      (ap shown q ∙ with_shown no_lines l (omega (arith, none_count)) none_whole.lines ∙ ap (λ (t : List ℕ). t ++ text_of l) none_shown
      ∙ one_number answer_key n (omega arith) e ∙ sym (one_line (answer_line n)))
      (record { number = n; judged = j; pinned = refl })
      (omega (arith, answer_most_lem n few))
