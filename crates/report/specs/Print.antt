-- What leastplan prints: the lines of a whole run; and where it goes.
use Rattle.std.specs.Prelude.{ℕ, suc, ◌<◌, ◌≤◌, ◌≡◌, List, [], ◌∷◌, ◌++◌}
use Rattle.text.specs.declared.Written.{Written}
use Rattle.text.specs.Lines.{Line, lines_text}
use Rattle.text.specs.Answers.{answer_line}
use Rattle.text.specs.Put.{Put}
use Rattle.sheet.specs.declared.Sheet.{Sheet}
use Rattle.reader.specs.Read.{read_of}
use Rattle.plan.specs.declared.PlanAnswer.{PlanAnswer}
use Rattle.plan.specs.Answers.{PlanAt}
use Rattle.interval_lines.specs.IntervalLines.{interval_lines}

-- the lines of the intervals from L up: it stops after 0, and ends with 7 if none has a plan
pub data Run (s : Sheet) : ℕ → List Line → Type 0 where
  none : {L : ℕ} → s.cap < L → Run s L (answer_line 7 ∷ [])
  stops : {L : ℕ} {a : PlanAnswer} → L ≤ s.cap → PlanAt s L a → a.answer ≡ 0 → Run s L (interval_lines s L a)
  goes_on : {L : ℕ} {a : PlanAnswer} {ls : List Line} → L ≤ s.cap → PlanAt s L a → (a.answer ≡ 0 → ⊥) → Run s (suc L) ls → Run s L (interval_lines s L a ++ ls)

-- the bytes of a sheet: a refused one prints its answer line only, an accepted one its intervals from 1 up
pub data Printed (bytes : List ℕ) : List Line → Type 0 where
  refused : ((read_of bytes).answer ≡ 0 → ⊥) → Printed bytes (answer_line (read_of bytes).answer ∷ [])
  read : (read_of bytes).answer ≡ 0 → {ls : List Line} → Run (read_of bytes).sheet 1 ls → Printed bytes ls

-- their text
pub data PrintedText (bytes : List ℕ) : List ℕ → Type 0 where
  text : {ls : List Line} → Printed bytes ls → PrintedText bytes (lines_text ls)

-- ---- the lent buffer

-- bytes that are enough for whatever leastplan prints
abbrev pub room : ℕ
room = 8192

-- all that leastplan prints
abbrev pub Reported : List ℕ → List ℕ → Written → List ℕ → Type 0
Reported bytes = Put room (PrintedText bytes)
