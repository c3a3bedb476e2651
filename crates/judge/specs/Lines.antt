-- The lines of a denial.
use Rattle.std.specs.Prelude.{ℕ, List, ◌∷◌}
use Rattle.text.specs.Lines.{Line}
use Rattle.text.specs.Answers.{answer_line, interval_line}
use Rattle.denial.specs.Tree.{Tree}
use Rattle.tree_judge.specs.Text.{tree_lines}

-- `answer=` with 5 or 6, `interval=`, and the lines of its tree
abbrev pub denial_lines : ℕ → ℕ → Tree → List Line
denial_lines a L t = answer_line a ∷ interval_line L ∷ tree_lines t
