-- What a command prints of each answer, line by line or as a page. The lines that leastplan prints too are those of
-- `text/Answers` and `report/Print`.
use Rattle.std.specs.Prelude.{ℕ, cond, List, [], ◌∷◌, ◌++◌, eqb, ℤ, take}
use Rattle.std.specs.Int.Signed.{le_z}
use Rattle.laws.specs.Entry.{vec, cell}
use Rattle.laws.specs.Each.{each}
use Rattle.text.specs.Keys as key
use Rattle.text.specs.Lines.{Line, lines_text, count_line}
use Rattle.text.specs.Text.{no_number}
use Rattle.text.specs.Answers.{answer_line, interval_line, loop_line}
use Rattle.walks.specs.Found.{no_walk}
use Rattle.constraints.specs.declared.bound.Bound as recurrence
use Rattle.constraints.specs.declared.loops.BadWalk as loops
use Rattle.constraints.specs.declared.starts.Starts as earliest
use Rattle.plan.specs.declared.resource.Bound as resource
use Rattle.plan.specs.declared.PlanAnswer.{PlanAnswer}
use Rattle.pair_order.specs.declared.SlotOrder.{SlotOrder}
use Rattle.sheet.specs.declared.Sheet.{Sheet}
use Rattle.page.specs.Answers.{plan_page}
use Rattle.interval_lines.specs.IntervalLines.{interval_lines}
use Rattle.words.specs.declared.Command.{Command}
use Rattle.words.specs.declared.Command.TheVariants.{Bounds, Starts, Separations, Plan, Page, Order, Check, Write}

-- ---- bounds

-- a bound: its answer and, where that is 0, its value under the key
unfoldable pub bound_lines : List ℕ → ℕ → ℕ → List Line
bound_lines key n v = answer_line n ∷ cond (eqb n 0) (count_line key v ∷ []) []

-- the recurrence bound, then the resource bound
abbrev pub bounds_lines : recurrence.Bound → resource.Bound → List Line
bounds_lines r q = bound_lines key.recurrence_key r.answer r.value ++ bound_lines key.resource_key q.answer q.value

-- ---- at an interval

-- an answer at an interval: with 0 the interval and what is given, with 5 the interval and the loop; else its number
-- alone
unfoldable pub answer_at : ℕ → ℕ → List ℕ → List Line → List Line
answer_at n L loop given =
    cond (eqb n 0) (answer_line n ∷ interval_line L ∷ given)
    (cond (eqb n 5) (answer_line n ∷ interval_line L ∷ loop_line loop ∷ [])
    (answer_line n ∷ []))

-- `start=`
abbrev pub start_line : ℕ → Line
start_line t = count_line key.start_key t

-- the earliest starts, one line per operation
abbrev pub starts_lines : Sheet → ℕ → earliest.Starts → List Line
starts_lines s L a = answer_at a.answer L (take a.loop_length a.loop_edges) (each s.op_count (λ i. start_line (vec a.starts i)))

-- a cell of the separation table: its sum, or no number at the mark "no walk", below which there is no sum
abbrev pub cell_of : ℤ → ℤ
cell_of z = cond (le_z z no_walk) no_number z

-- `row=` with a cell for each of n columns
abbrev pub row_line : ℕ → (ℕ → ℤ) → Line
row_line n row = record { key = key.row_key; values = each n (λ j. cell_of (row j)) }

-- the separations, one row per operation with one column per operation
abbrev pub separations_lines : Sheet → ℕ → loops.BadWalk → List (List ℤ) → List Line
separations_lines s L w t = answer_at w.answer L (take w.loop_length w.loop_edges) (each s.op_count (λ i. row_line s.op_count (cell t i)))

-- the plan: the lines that leastplan prints for the interval; 4 alone
unfoldable pub plan_lines : Sheet → ℕ → PlanAnswer → List Line
plan_lines s L a = cond (eqb a.answer 4) (answer_line a.answer ∷ []) (interval_lines s L a)

-- why there is no plan: the answer, and with 5 the loop
unfoldable pub denial_lines : ℕ → List ℕ → List Line
denial_lines n loop = answer_line n ∷ cond (eqb n 5) (loop_line loop ∷ []) []

-- the slot order, or why there is none
unfoldable pub order_lines : SlotOrder → List Line
order_lines a =
    cond (eqb a.answer 0) (answer_line a.answer ∷ count_line key.order_key a.order ∷ [])
    (denial_lines a.answer (take a.loop_length a.loop_edges))

-- the page of the plan and nothing else, or why there is none
unfoldable pub first_page : Sheet → ℕ → PlanAnswer → List ℕ
first_page s L a =
    cond (eqb a.answer 0) (plan_page s L a.starts a.instances)
    (lines_text (denial_lines a.answer (take a.loop_length a.loop_edges)))

-- ---- a refused sheet

-- its answer alone; the command `check` adds the number of the line at fault
unfoldable pub refusal_lines : Command → ℕ → ℕ → List Line
refusal_lines Bounds n line = answer_line n ∷ []
refusal_lines (Starts L) n line = answer_line n ∷ []
refusal_lines (Separations L) n line = answer_line n ∷ []
refusal_lines (Plan L) n line = answer_line n ∷ []
refusal_lines (Page L) n line = answer_line n ∷ []
refusal_lines (Order L pair) n line = answer_line n ∷ []
refusal_lines Check n line = answer_line n ∷ count_line key.line_key line ∷ []
refusal_lines Write n line = answer_line n ∷ []
