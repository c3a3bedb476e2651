-- The steps of a script one after the other, with their lines in a buffer: what holds before each, and after all.
-- Assumes nothing.
use Rattle.std.specs.Prelude.{◌≡◌, List, [], ◌∷◌, ◌++◌, ℕ, ◌+◌, ◌*◌, ◌≤◌, ◌<◌, length, drop}
use Rattle.std.proofs.Common.{sym, ap, subst, ◌∙◌, append-nil, append_assoc, arith, length-append}
use Rattle.std.proofs.lemmas.List.{length-replicate}
use Rattle.sizes.specs.Sizes.{most_operations}
use Rattle.text.specs.Lines.{Line, lines_text}
use Rattle.text.specs.Filling.{lines_append}
use Rattle.text.specs.Pasting.{Pasted, pasted_none, pasted_as, pasted_then}
use Rattle.sheet.specs.declared.Sheet.{Sheet}
use Rattle.sheet.specs.Questions.{Accepted}
use Rattle.placing_table.specs.declared.Placement.{Placement}
use Rattle.placing_table.specs.declared.Table.{Table}
use Rattle.placing_table.specs.Table.{nothing, empty_table, Consistent}
use Rattle.placing_table.specs.Keeps.{empty_consistent}
use Rattle.placing.specs.declared.PlaceAnswer.{PlaceAnswer}
use Rattle.table_script.specs.declared.Step.{Step}
use Rattle.table_script.specs.Script.{read, step_of, most_steps, steps, script_of}
use Rattle.table_script.specs.Ahead.{Ahead, begin, next, room, finished, few_steps}
use Rattle.table_command.specs.declared.steps.Run.{Run}
use Rattle.table_command.specs.Prints.{StepAt, answer_lines, Runs, ends, then}
use Rattle.table_command.specs.Widths.{step_most, step_most_lem}
use Rattle.table_command.specs.Small.{step_small, step_kept}

-- one step more at the end
runs_then : {s : Sheet} {L : ℕ} {table after : Table} {sts : List Step} {ls : List Line} {st : Step} {a : PlaceAnswer}
    → Runs s L table sts after ls → StepAt s L after st a → Runs s L table (sts ++ (st ∷ [])) a.table (ls ++ answer_lines a)
runs_then {s} {L} {table} {st = st} {a} ends w = subst (Runs s L table (st ∷ []) a.table) (append-nil (answer_lines a)) (then w ends)
runs_then {s} {L} {table} {st = st} {a} (then {sts = sts} {a = b} {ls = ls} v r) w =
    subst (Runs s L table (_ ∷ (sts ++ (st ∷ []))) a.table) (sym (append_assoc (answer_lines b) ls (answer_lines a))) (then v (runs_then r w))

-- ---- one step

-- what it answers, with its lines in the buffer from the place at on
pub record Stepped (s : Sheet) (L : ℕ) (table : Table) (st : Step) (at : ℕ) (old new : List ℕ) (r : Run) : Type 0 where
  pub answer : PlaceAnswer
  pub answered : StepAt s L table st answer
  pub after : r.table ≡ answer.table
  pub pasted : Pasted at (lines_text (answer_lines answer)) old new r.place

-- ---- the loop

-- at the place p of a script whose steps are all: those before it are done, and their lines are in the buffer
pub record Turn (s : Sheet) (L : ℕ) (script : List ℕ) (all : List Step) (old out : List ℕ) (table : Table) (place p : ℕ) : Type 0 where
  pub done : List Step
  pub lines : List Line
  pub ahead : Ahead script all p done
  pub runs : Runs s L empty_table done table lines
  pub pasted : Pasted 0 (lines_text lines) old out place
  pub short : place ≤ step_most * length done
  pub consistent : Consistent s L table
  pub long : length table.entries ≡ most_operations

-- all steps are done
pub record AllRan (s : Sheet) (L : ℕ) (script old new : List ℕ) (r : Run) : Type 0 where
  pub all : List Step
  pub whole : script_of script ≡ steps all
  pub lines : List Line
  pub runs : Runs s L empty_table all r.table lines
  pub pasted : Pasted 0 (lines_text lines) old new r.place
  pub short : r.place ≤ step_most * most_steps
  pub consistent : Consistent s L r.table

pub start : {s : Sheet} {L : ℕ} {script : List ℕ} {all : List Step} (old : List ℕ) {table : Table} → script_of script ≡ steps all → table ≡ empty_table
    → Turn s L script all old old table 0 0
unfolding lines_text
start {s} {L} {script} {all} old e t = subst (λ (x : Table). Turn s L script all old old x 0 0) (sym t) (record {
  done = [];
  lines = [];
  ahead = begin e;
  runs = ends;
  pasted = pasted_none old 0 (omega arith);
  short = omega arith;
  consistent = empty_consistent s L;
  long = length-replicate {A = Placement} most_operations nothing;
})

module _ {s : Sheet} {L : ℕ} (y : Accepted s L) {script : List ℕ} {all : List Step} {old out : List ℕ} {table : Table} {place p : ℕ} (t : Turn s L script all old out table place p) where
  -- there is room for the lines of a step more
  pub fits : p < length script → step_most * most_steps ≤ length old → place + step_most ≤ length out
  fits h m = omega (arith, t.short, room t.ahead h, t.pasted.size)

  pub again : {st : Step} {q : ℕ} {r : Run} {new : List ℕ} → p < length script → read st (drop q script) ≡ step_of (drop p script)
      → Stepped s L table st place out new r → Turn s L script all old new r.table r.place q
  again {st = st} {r = r} h e w =
      let k = step_kept t.long t.consistent w.answered in
      let b = step_most_lem w.answer (step_small y w.answered) in
      let n = length-append t.done (st ∷ []) in
      record {
        done = t.done ++ (st ∷ []);
        lines = t.lines ++ answer_lines w.answer;
        ahead = next t.ahead h e;
        runs = subst (λ (x : Table). Runs s L empty_table (t.done ++ (st ∷ [])) x (t.lines ++ answer_lines w.answer)) (sym w.after) (runs_then t.runs w.answered);
        pasted = pasted_as (sym (lines_append t.lines (answer_lines w.answer))) (pasted_then (omega arith) t.pasted w.pasted);
        short = omega (arith, t.short, w.pasted.ends, b, n);
        consistent = subst (Consistent s L) (sym w.after) k.0;
        long = ap (λ (x : Table). length x.entries) w.after ∙ k.1;
      }

  pub all_ran : script_of script ≡ steps all → length script ≤ p → AllRan s L script old out (record { place = place; table = table })
  all_ran e h =
      let f = finished t.ahead h in
      let b = few_steps script e in
      record {
        all = all;
        whole = e;
        lines = t.lines;
        runs = subst (λ (x : List Step). Runs s L empty_table x table t.lines) f t.runs;
        pasted = t.pasted;
        short = omega (arith, t.short, ap length f, b);
        consistent = t.consistent;
      }
