-- At most one text fits the bytes of a sheet, an interval and a script, and so one answer and one buffer.
-- Assumes nothing.
use Rattle.std.specs.Prelude.{◌≡◌, refl, List, ◌++◌, ℕ}
use Rattle.std.proofs.Common.{sym, ap, ap₂, subst, ◌∙◌}
use Rattle.text.specs.declared.Written.{Written}
use Rattle.text.specs.Lines.{Line, lines_text}
use Rattle.text.specs.Answers.{refusal_text}
use Rattle.text.specs.PutLaws.{put_one}
use Rattle.sheet.specs.declared.Sheet.{Sheet}
use Rattle.sheet.specs.Questions.{One, is_one, asked_one, at_interval_one}
use Rattle.placing_table.specs.declared.Table.{Table}
use Rattle.placing.specs.declared.PlaceAnswer.{PlaceAnswer}
use Rattle.placing.specs.Unique.{place_unique, offer_unique, book_unique}
use Rattle.page_text.specs.Page.{page_text}
use Rattle.table_script.specs.declared.Step.{Step}
use Rattle.table_script.specs.Script.{ScriptRead}
use Rattle.table_command.specs.Prints.{beside_table, StepAt, offered, booked, placed, answer_lines, Runs, ends, then, entry_lines, TableText, PrintsTable, at_fault, run, Answered}

module _ {s : Sheet} {L : ℕ} where
  step_one : {table : Table} {st : Step} → One (StepAt s L table st)
  step_one {table} _ _ (offered p) (offered q) = ap (beside_table table) (offer_unique _ _ p q)
  step_one _ _ (booked p) (booked q) = book_unique _ _ p q
  step_one _ _ (placed p) (placed q) = place_unique _ _ p q

  -- the table and the lines after the steps
  runs_one : {table t u : Table} {sts : List Step} {ls ms : List Line} → Runs s L table sts t ls → Runs s L table sts u ms → (t ≡ u) × (ls ≡ ms)
  runs_one ends ends = (refl, refl)
  runs_one {u = u} {ms = ms} (then {sts = sts} {a = a} {ls = ls} p r) (then {a = b} {ls = ns} q w) =
      let e = step_one a b p q in
      let i = runs_one r (subst (λ (x : PlaceAnswer). Runs s L x.table sts u ns) (sym e) w) in
      (i.0, ap₂ (λ (x : PlaceAnswer) (l : List Line). answer_lines x ++ l) e i.1)

  text_one : {sts : List Step} → One (TableText s L sts)
  text_one _ _ p q =
      let e = runs_one p.runs q.runs in
      p.pinned
      ∙ ap₂ (λ (t : Table) (ls : List Line). lines_text ls ++ (lines_text (entry_lines s.op_count t) ++ page_text s L t)) e.0 e.1
      ∙ sym q.pinned

prints_one : {bytes : List ℕ} {L : ℕ} {r : ScriptRead} → One (PrintsTable bytes L r)
prints_one _ _ at_fault at_fault = refl
prints_one a b (run p) (run q) = asked_one (is_one _) (at_interval_one refusal_text text_one) a b p q

-- at most one answer and one buffer fit
pub once : (script : List ℕ) {bytes old : List ℕ} {L : ℕ} {r r' : Written} {new new' : List ℕ} → Answered bytes L script old r new → Answered bytes L script old r' new' → (r ≡ r') × (new ≡ new')
once script = put_one prints_one
