-- From the lines of a service's answer to what its command prints.
-- Assumes nothing.
use Rattle.std.specs.Prelude.{◌≡◌, refl, Bool, true, false, cond, List, [], ◌∷◌, ℕ, ◌≤◌, length, take, eqb}
use Rattle.std.proofs.Common.{ap, subst, ◌∙◌, arith}
use borrow.Author.Tests.{eq-eqb, ne_eqb}
use Rattle.text.specs.declared.Written.{Written}
use Rattle.text.specs.Text.{buffer_of}
use Rattle.text.specs.Line.{written_of}
use Rattle.text.specs.PutLaws.{put_as}
use Rattle.text.specs.Keys.{order_key}
use Rattle.text.specs.Lines.{Line, count_line, lines_text}
use Rattle.text.specs.Answers.{answer_line, interval_line, loop_line}
use Rattle.lines.specs.declared.Lines.{Lines}
use Rattle.lines.specs.Lines.{shown}
use Rattle.lines.specs.Shown.{shown_most}
use Rattle.constraints.specs.declared.loops.BadWalk as loops
use Rattle.dependence.specs.Answer.{zero_table}
use Rattle.sheet.specs.declared.Sheet.{Sheet}
use Rattle.sheet.specs.Sheet.{InRange}
use Rattle.sheet.specs.Questions.{at_no, at_yes, AskedAt, Accepted, refuses}
use Rattle.sheet.specs.Text.{sheet_text}
use Rattle.writer.specs.Wrote.{Wrote, out_of_range, in_range_lem}
use Rattle.reader.specs.Read.{longest_sheet}
use Rattle.timing.specs.Answers.{WalkAt, SeparationsAt}
use Rattle.plan.specs.declared.PlanAnswer.{PlanAnswer}
use Rattle.plan.specs.Answers.{refused, PlanAt}
use Rattle.pair_order.specs.declared.SlotOrder.{SlotOrder}
use Rattle.page.specs.Answers.{plan_page}
use Rattle.interval_lines.specs.IntervalLines.{interval_lines, plan_text}
use Rattle.report.specs.IntervalText.{IntervalText, refusal, lines, asked_unique}
use Rattle.interval_lines.specs.Small.{small}
use Rattle.report.specs.Bounds.{lines_most}
use Rattle.command_lines.specs.Listing.{answer_at, bound_lines, plan_lines, denial_lines, order_lines, first_page}
use Rattle.words.specs.declared.Command.TheVariants.{Plan, Write}
use Rattle.command_lines.specs.Prints.{Serves, plan, write, Put}
use Rattle.command_lines.specs.Shows.{Lists}
use Rattle.command_lines.specs.Printable.{not_four}

-- ---- an answer by its number

module _ (n L : ℕ) (loop : List ℕ) (given : List Line) where
  pub at_given : n ≡ 0 → answer_at n L loop given ≡ answer_line 0 ∷ interval_line L ∷ given
  unfolding answer_at
  at_given e = rw (eq-eqb n 0 e, e)

  pub at_loop : n ≡ 5 → answer_at n L loop given ≡ answer_line n ∷ interval_line L ∷ loop_line loop ∷ []
  unfolding answer_at
  at_loop e = rw (ne_eqb n 0 (λ z. omega arith), eq-eqb n 5 e)

  pub at_else : (n ≡ 0 → ⊥) → (n ≡ 5 → ⊥) → answer_at n L loop given ≡ answer_line n ∷ []
  unfolding answer_at
  at_else e f = rw (ne_eqb n 0 e, ne_eqb n 5 f)

-- a bound without its value, and with it
pub bound_refused_lem : (key : List ℕ) (n v : ℕ) → (n ≡ 0 → ⊥) → bound_lines key n v ≡ answer_line n ∷ []
unfolding bound_lines
bound_refused_lem key n v e = rw (ne_eqb n 0 e)

pub bound_given : (key : List ℕ) (n v : ℕ) → n ≡ 0 → bound_lines key n v ≡ answer_line n ∷ count_line key v ∷ []
unfolding bound_lines
bound_given key n v e = rw (eq-eqb n 0 e)

-- with it or without, a bound has at most two lines
pub bound_short : (key : List ℕ) (n v : ℕ) → length (bound_lines key n v) ≤ 2
unfolding bound_lines
bound_short key n v = at (eqb n 0)
  where
    at : (b : Bool) → length (answer_line n ∷ cond b (count_line key v ∷ []) []) ≤ 2
    at true = omega arith
    at false = omega arith

-- why there is no plan, with a loop and without
module _ (n : ℕ) (loop : List ℕ) where
  pub denial_loop : n ≡ 5 → denial_lines n loop ≡ answer_line n ∷ loop_line loop ∷ []
  unfolding denial_lines
  denial_loop e = rw (eq-eqb n 5 e)

  pub denial_else : (n ≡ 5 → ⊥) → denial_lines n loop ≡ answer_line n ∷ []
  unfolding denial_lines
  denial_else e = rw (ne_eqb n 5 e)

-- the slot order's lines
module _ (a : SlotOrder) where
  pub order_given : a.answer ≡ 0 → order_lines a ≡ answer_line a.answer ∷ count_line order_key a.order ∷ []
  unfolding order_lines
  order_given e = rw (eq-eqb a.answer 0 e)

  pub order_denied : (a.answer ≡ 0 → ⊥) → order_lines a ≡ denial_lines a.answer (take a.loop_length a.loop_edges)
  unfolding order_lines
  order_denied e = rw (ne_eqb a.answer 0 e)

-- the page of the first plan
module _ (s : Sheet) (L : ℕ) (a : PlanAnswer) where
  pub page_given : a.answer ≡ 0 → first_page s L a ≡ plan_page s L a.starts a.instances
  unfolding first_page
  page_given e = rw (eq-eqb a.answer 0 e)

  pub page_denied : (a.answer ≡ 0 → ⊥) → first_page s L a ≡ lines_text (denial_lines a.answer (take a.loop_length a.loop_edges))
  unfolding first_page
  page_denied e = rw (ne_eqb a.answer 0 e)

-- ---- a list of lines that is put into the buffer

pub put : {P : List ℕ → Type 0} {old new : List ℕ} {r : Written} {ls : Lines} → Lists P ls → r ≡ written_of (shown ls) old → new ≡ buffer_of (shown ls) old → Put P old r new
put p e f = let m = shown_most p.whole in put_as refl p.holds (omega arith) e f

-- ---- the plan's lines

-- 4 alone
four_alone : (s : Sheet) (L : ℕ) (a : PlanAnswer) → a.answer ≡ 4 → plan_lines s L a ≡ answer_line a.answer ∷ []
unfolding plan_lines
four_alone s L a e = rw (eq-eqb a.answer 4 e)

pub plan_four : {s : Sheet} {L n : ℕ} → InRange s → AskedAt s L n → n ≡ 4 → Serves s (Plan L) (lines_text (answer_line n ∷ []))
plan_four {s} {L} {n} ok a e =
    let p : PlanAt s L (refused n) = refuses refused a (λ z. omega arith) refl in
    subst (λ (ls : List Line). Serves s (Plan L) (lines_text ls)) (four_alone s L (refused n) e) (plan p)

-- at an interval, the lines that leastplan prints for it
pub plan_lines_lem : {s : Sheet} {L : ℕ} {a : PlanAnswer} → Accepted s L → PlanAt s L a → plan_lines s L a ≡ interval_lines s L a
unfolding plan_lines
plan_lines_lem {a = a} y p = rw (ne_eqb a.answer 4 (not_four y p))

pub interval_put : {s : Sheet} {L n : ℕ} {old new : List ℕ} {r : Written} → InRange s → AskedAt s L n → n ≡ 0 → IntervalText s L old r new → Put (Serves s (Plan L)) old r new
interval_put ok a z (refusal b m) = absurd (m (asked_unique b a ∙ z))
interval_put {s} {L} ok a z (lines {a = b} y p) =
    let m = lines_most s L b (small y.sheet y.interval p) in
    record {
      text = plan_text s L b;
      holds = subst (λ (ls : List Line). Serves s (Plan L) (lines_text ls)) (plan_lines_lem y p) (plan p);
      enough = omega arith;
      answer = refl;
      buffer = refl;
    }

-- ---- the separations' table where there is none

pub no_table : {s : Sheet} {L : ℕ} {w : loops.BadWalk} → WalkAt s L w → (w.answer ≡ 0 → ⊥) → SeparationsAt s L zero_table
no_table (at_no n _) z = at_no n refl
no_table (at_yes r (at_no n _)) z = at_yes r (at_no n refl)
no_table (at_yes r (at_yes i (at_no n _))) z = at_yes r (at_yes i (at_no n refl))
no_table (at_yes r (at_yes i (at_yes f e))) z = absurd (z (ap (λ (w : loops.BadWalk). w.answer) e))

-- ---- the sheet's own text

pub write_put : {s : Sheet} {old new : List ℕ} {r : Written} → InRange s → length (sheet_text s) ≤ longest_sheet → Wrote s old r new → Put (Serves s Write) old r new
write_put ok h (out_of_range n) = absurd (n ok)
write_put {s} ok h (in_range_lem _) = record { text = sheet_text s; holds = write; enough = omega arith; answer = refl; buffer = refl }
