-- At most one answer, one line at fault and one text fit the bytes of a sheet and of another supplier's answer, and so
-- one buffer.
-- Assumes nothing.
use Rattle.std.specs.Prelude.{◌≡◌, List, ℕ}
use Rattle.std.proofs.Common.{sym, ap, ap₂, ◌∙◌}
use Rattle.text.specs.declared.Written.{Written}
use Rattle.text.specs.Answers.{refusal_text}
use Rattle.text.specs.PutLaws.{put_one}
use Rattle.sheet.specs.Questions.{One, is_one, asked_one}
use Rattle.reader.specs.Read.{read_of}
use Rattle.judge.specs.Bytes.{judge_of_unique}
use Rattle.judge.specs.Unique.{fault_unique}
use Rattle.judge_command.specs.declared.Finding.{Finding}
use Rattle.judge_command.specs.Prints.{LineOf, Examined, PrintsJudged, Answered}

abbrev finding : ℕ → ℕ → Finding
finding n l = record { answer = n; line = l }

module _ (bytes given : List ℕ) where
  line_one : One (LineOf bytes given)
  line_one = asked_one (is_one 0) (fault_unique (read_of bytes).sheet given)

  pub examined_once : One (Examined bytes given)
  examined_once r r' p q =
      ap₂ (λ (n l : ℕ). finding n l) (judge_of_unique bytes given r.answer r'.answer p.answer q.answer) (line_one r.line r'.line p.line q.line)

  prints_one : One (PrintsJudged bytes given)
  prints_one _ _ p q = p.pinned ∙ ap refusal_text (judge_of_unique bytes given p.number q.number p.judged q.judged) ∙ sym q.pinned

  -- at most one answer and one buffer fit
  pub once : {old : List ℕ} {r r' : Written} {new new' : List ℕ} → Answered bytes given old r new → Answered bytes given old r' new' → (r ≡ r') × (new ≡ new')
  once = put_one prints_one
