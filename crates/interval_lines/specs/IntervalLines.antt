-- The lines of one interval, and their text.
use Rattle.std.specs.Prelude.{ℕ, cond, List, [], ◌∷◌, eqb, take}
use Rattle.laws.specs.Entry.{vec}
use Rattle.laws.specs.Each.{each}
use Rattle.text.specs.Lines.{Line, lines_text}
use Rattle.text.specs.Answers.{answer_line, interval_line, loop_line, at_line}
use Rattle.sheet.specs.declared.Sheet.{Sheet}
use Rattle.plan.specs.declared.PlanAnswer.{PlanAnswer}

-- for 5 the loop, for 0 one line per operation
unfoldable pub detail : Sheet → PlanAnswer → List Line
detail s a =
    cond (eqb a.answer 0)
    (each s.op_count (λ i. at_line (vec a.starts i) (vec a.instances i)))
    (cond (eqb a.answer 5) (loop_line (take a.loop_length a.loop_edges) ∷ []) [])

-- the lines of one interval
unfoldable pub interval_lines : Sheet → ℕ → PlanAnswer → List Line
interval_lines s L a = answer_line a.answer ∷ interval_line L ∷ detail s a

-- the text of a plan: the lines that leastplan prints for that interval
abbrev pub plan_text : Sheet → ℕ → PlanAnswer → List ℕ
plan_text s L a = lines_text (interval_lines s L a)
