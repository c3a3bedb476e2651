-- The lines that leastplan prints for a plan: `answer=0`, `interval=L`, and a line `at=t,u` for each operation.
use Rattle.std.specs.Prelude.{ℕ, ◌≤◌, ◌≡◌, List, [], ◌∷◌, length}
use Rattle.sizes.specs.Sizes.{most_operations}
use Rattle.laws.specs.Entry.{vec}
use Rattle.text.specs.Lines.{Line}
use Rattle.text.specs.Sizes.{four_digits}
use Rattle.text.specs.Answers.{answer_line, interval_line, at_line}

-- one for each start and its instance
unfoldable pub at_lines : List ℕ → List ℕ → List Line
at_lines [] us = []
at_lines (t ∷ ts) [] = []
at_lines (t ∷ ts) (u ∷ us) = at_line t u ∷ at_lines ts us

-- the lines of a plan
abbrev pub lines_for : ℕ → List ℕ → List ℕ → List Line
lines_for L ts us = answer_line 0 ∷ interval_line L ∷ at_lines ts us

-- each number has at most four digits
abbrev pub Small : List ℕ → Type 0
Small xs = (i : ℕ) → vec xs i ≤ four_digits

-- a plan that such lines can show: an instance for each start, at most 24 of them, no number of more than four digits
pub record Showable (L : ℕ) (ts us : List ℕ) : Type 0 where
  pub paired : length us ≡ length ts
  pub few : length ts ≤ most_operations
  pub interval : L ≤ four_digits
  pub starts : Small ts
  pub instances : Small us
