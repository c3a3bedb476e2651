-- What the command `judge` answers to another supplier's answer, and prints.
use Rattle.std.specs.Prelude.{ℕ, ◌≡◌, List}
use Rattle.text.specs.declared.Written.{Written}
use Rattle.text.specs.Answers.{refusal_text}
use Rattle.text.specs.Put.{Put}
use Rattle.sheet.specs.Questions.{Asked, Is}
use Rattle.reader.specs.Read.{read_of}
use Rattle.judge.specs.Bytes.{JudgeOf}
use Rattle.judge.specs.Fault.{FaultAt}
use Rattle.judge_command.specs.declared.Finding.{Finding}

-- ---- what is answered

-- the line of an answer that is at fault: 0 where the sheet is refused
abbrev pub LineOf : List ℕ → List ℕ → ℕ → Type 0
LineOf bytes given = Asked ((read_of bytes).answer ≡ 0) (Is 0) (FaultAt (read_of bytes).sheet given)

-- both
pub record Examined (bytes given : List ℕ) (r : Finding) : Type 0 where
  pub answer : JudgeOf bytes given r.answer
  pub line : LineOf bytes given r.line

-- ---- what is printed

-- the line `answer=` alone
pub record PrintsJudged (bytes given text : List ℕ) : Type 0 where
  pub number : ℕ
  pub judged : JudgeOf bytes given number
  pub pinned : text ≡ refusal_text number

-- bytes that are enough for it
abbrev pub room : ℕ
room = 11

-- at the front of the lent buffer, or 9
abbrev pub Answered : List ℕ → List ℕ → List ℕ → Written → List ℕ → Type 0
Answered bytes given = Put room (PrintsJudged bytes given)
