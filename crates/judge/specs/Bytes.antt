-- The judgement of an answer for the bytes of a sheet: the questions of reading the sheet come first.
use Rattle.std.specs.Prelude.{ℕ, ◌≡◌, List}
use Rattle.sheet.specs.Questions.{Asked, Is, One, is_one, asked_one}
use Rattle.reader.specs.Read.{read_of}
use Rattle.judge.specs.Answers.{JudgedAt}
use Rattle.judge.specs.Unique.{judge_unique}

-- the sheet's refusal, else what the answer is judged
abbrev pub JudgeOf : List ℕ → List ℕ → ℕ → Type 0
JudgeOf bytes answer =
    Asked ((read_of bytes).answer ≡ 0) (Is (read_of bytes).answer) (JudgedAt (read_of bytes).sheet answer)

-- at most one number fits
pub judge_of_unique : (bytes answer : List ℕ) → One (JudgeOf bytes answer)
judge_of_unique bytes answer = asked_one (is_one _) (judge_unique (read_of bytes).sheet answer)
