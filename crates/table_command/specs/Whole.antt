-- All that is printed: the lines of the steps, the entries and the page one after the other in a buffer, and what the
-- command gives for the bytes of a sheet and of a script. Assumes nothing.
use Rattle.std.specs.Prelude.{◌≡◌, refl, ℕ, ◌+◌, ◌*◌, ◌≤◌, length, take, drop}
use Rattle.std.proofs.Common.{sym, ap, subst, ◌∙◌, arith, take_at}
use mathlib.Core.List.{List, [], ◌++◌}
use Rattle.sizes.specs.Sizes.{most_operations}
use Rattle.text.specs.Text.{over}
use Rattle.text.specs.Lines.{lines_text}
use Rattle.text.specs.Pasting.{Pasted, pasted_then, pasted_front}
use Rattle.sheet.specs.declared.Sheet.{Sheet}
use Rattle.sheet.specs.Facts.{ops_most}
use Rattle.sheet.specs.Questions.{Accepted}
use Rattle.page_text.specs.Page.{page_text}
use Rattle.page_text.specs.Widths.{longest_page, page_long, page_most}
use Rattle.table_script.specs.declared.Step.{Step}
use Rattle.table_script.specs.Script.{most_steps, ScriptRead, steps, fault, script_of, fault_of}
use Rattle.table_command.specs.declared.steps.Run.{Run}
use Rattle.table_command.specs.Prints.{entry_lines, TableText, Serves, PrintsTable, at_fault, run}
use Rattle.table_command.specs.Widths.{step_most, entry_most, table_most, SmallTable, entries_most}
use Rattle.table_command.specs.Small.{table_small}
use Rattle.table_command.specs.Turns.{AllRan}

-- ---- in a buffer

-- all that is printed of a sheet and an interval that are accepted, at the front of the buffer
pub record Listed (s : Sheet) (L : ℕ) (script old new : List ℕ) (n : ℕ) : Type 0 where
  pub all : List Step
  pub whole : script_of script ≡ steps all
  pub text : List ℕ
  pub holds : TableText s L all text
  pub pasted : Pasted 0 text old new n
  pub short : length text ≤ table_most

module _ {s : Sheet} {L : ℕ} (y : Accepted s L) {script old mid : List ℕ} {r : Run} (a : AllRan s L script old mid r) (m : table_most ≤ length old) where
  -- what the entries ask for
  pub entries_fit : (s.op_count ≤ most_operations) × SmallTable r.table × (r.place + entry_most * most_operations ≤ length mid)
  entries_fit = (ops_most y.sheet, table_small y.sheet a.consistent, omega (arith, a.short, a.pasted.size))

  module _ {last : List ℕ} {end : ℕ} (p : Pasted r.place (lines_text (entry_lines s.op_count r.table)) mid last end) where
    end_most : end ≤ step_most * most_steps + entry_most * most_operations
    end_most = omega (arith, a.short, p.ends, entries_most s.op_count r.table entries_fit.1, ops_most y.sheet)

    -- and the page
    pub page_fits : end + longest_page ≤ length last
    page_fits = omega (arith, end_most, a.pasted.size, p.size)

    page_short : length (page_text s L r.table) ≤ longest_page
    page_short = omega (arith, page_long y r.table, page_most y)

    pub page_room : end + length (page_text s L r.table) ≤ length last
    page_room = omega (arith, page_fits, page_short)

    pub listed : {new : List ℕ} {n : ℕ} → Pasted end (page_text s L r.table) last new n → Listed s L script old new n
    listed q =
        let e = lines_text (entry_lines s.op_count r.table) in
        let page = page_text s L r.table in
        let w = pasted_then (omega arith) a.pasted (pasted_then (omega (arith, a.short, a.pasted.size)) p q) in
        record {
          all = a.all;
          whole = a.whole;
          text = lines_text a.lines ++ (e ++ page);
          holds = record { table = r.table; lines = a.lines; runs = a.runs; pinned = refl };
          pasted = w;
          short = omega (arith, w.ends, q.ends, end_most, page_short);
        }

-- the bytes counted are the text
pub listed_text : {s : Sheet} {L : ℕ} {script old new : List ℕ} {n : ℕ} (l : Listed s L script old new n) → take n new ≡ l.text
unfolding over
listed_text {old = old} {new} {n} l =
    let f = pasted_front l.pasted in
    ap (take n) f.1 ∙ take_at l.text (drop (length l.text) old) n (sym f.0)

-- ---- for the bytes of a sheet

module _ {bytes : List ℕ} (script : List ℕ) {L : ℕ} where
  -- a line of the script is at fault
  pub nothing_printed : (fault_of (script_of script) ≡ 0 → ⊥) → PrintsTable bytes L (script_of script) []
  unfolding fault_of
  nothing_printed n = at (script_of script) n
    where
      at : (r : ScriptRead) → (fault_of r ≡ 0 → ⊥) → PrintsTable bytes L r []
      at (steps sts) z = absurd (z refl)
      at (fault k) z = at_fault

  pub printed : {all : List Step} {text : List ℕ} → script_of script ≡ steps all → Serves bytes L all text → PrintsTable bytes L (script_of script) text
  printed {text = text} e p = subst (λ (x : ScriptRead). PrintsTable bytes L x text) (sym e) (run p)
