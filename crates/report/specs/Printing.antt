-- Laws of a run: at most one list of lines fits a sheet, and the lines of the intervals go one after the other into a
-- buffer.
-- Assumes nothing.
use Rattle.std.specs.Prelude.{◌≡◌, refl, List, [], ◌++◌, ℕ, ◌+◌, ◌-◌, ◌≤◌, length, take, drop}
use Rattle.std.proofs.Common.{sym, ap, ap₂, ◌∙◌, append_assoc, arith, add-one, length-append, take_at}
use Rattle.text.specs.Text.{over, buffer_of}
use Rattle.text.specs.declared.Written.{Written}
use Rattle.text.specs.Line.{written_of}
use Rattle.text.specs.Lines.{Line, lines_text}
use Rattle.text.specs.Filling.{lines_append}
use Rattle.text.specs.PutLaws.{put_as, put_one}
use Rattle.text.specs.Writing.{length_over, over_none, extend, part_back, pasted}
use Rattle.sheet.specs.declared.Sheet.{Sheet}
use Rattle.plan.specs.declared.PlanAnswer.{PlanAnswer}
use Rattle.plan.specs.Answers.{PlanAt}
use Rattle.plan.specs.Unique.{plan_at_unique}
use Rattle.interval_lines.specs.IntervalLines.{interval_lines}
use Rattle.report.specs.Print.{Run, none, stops, goes_on, Printed, refused, read, PrintedText, text, room, Reported}

pub run_unique : {s : Sheet} {L : ℕ} {ls ms : List Line} → Run s L ls → Run s L ms → ls ≡ ms
run_unique (none a) (none b) = refl
run_unique (none a) (stops b _ _) = absurd (omega arith)
run_unique (none a) (goes_on b _ _ _) = absurd (omega arith)
run_unique (stops a _ _) (none b) = absurd (omega arith)
run_unique {s} {L} (stops a p z) (stops b q y) = ap (interval_lines s L) (plan_at_unique _ _ p q)
run_unique (stops a p z) (goes_on b q y _) = absurd (y (sym (ap (λ (x : PlanAnswer). x.answer) (plan_at_unique _ _ p q)) ∙ z))
run_unique (goes_on a _ _ _) (none b) = absurd (omega arith)
run_unique (goes_on a p z _) (stops b q y) = absurd (z (ap (λ (x : PlanAnswer). x.answer) (plan_at_unique _ _ p q) ∙ y))
run_unique {s} {L} (goes_on a p z r) (goes_on b q y t) = ap₂ (λ (x : PlanAnswer) (ns : List Line). interval_lines s L x ++ ns) (plan_at_unique _ _ p q) (run_unique r t)

-- the lines of the intervals below L are in the buffer old, up to the place at
pub record Printing (s : Sheet) (old out : List ℕ) (L at : ℕ) : Type 0 where
  pub lines : List Line
  pub joins : (ls : List Line) → Run s L ls → Run s 1 (lines ++ ls)
  pub place : at ≡ length (lines_text lines)
  pub buffer : out ≡ over (lines_text lines) old
  pub fits : at ≤ length old

-- lines of which P holds are at the front of the buffer old, up to the place at
pub record Front (P : List Line → Type 0) (old out : List ℕ) (at : ℕ) : Type 0 where
  pub lines : List Line
  pub holds : P lines
  pub place : at ≡ length (lines_text lines)
  pub buffer : out ≡ over (lines_text lines) old
  pub fits : at ≤ length old

pub weaken : {P Q : List Line → Type 0} {old out : List ℕ} {at : ℕ} → ((ls : List Line) → P ls → Q ls) → Front P old out at → Front Q old out at
weaken f p = record { lines = p.lines; holds = f p.lines p.holds; place = p.place; buffer = p.buffer; fits = p.fits }

pub front_size : {P : List Line → Type 0} {old out : List ℕ} {at : ℕ} → Front P old out at → length out ≡ length old
front_size {P} {old} p = let f = p.fits in let e = p.place in ap length p.buffer ∙ length_over (lines_text p.lines) old (omega arith)

front_text : {P : List Line → Type 0} {old out : List ℕ} {at : ℕ} (p : Front P old out at) → take at out ≡ lines_text p.lines
unfolding over
front_text {P} {old} {out} {at} p = ap (take at) p.buffer ∙ take_at (lines_text p.lines) (drop (length (lines_text p.lines)) old) at (sym p.place)

printed_unique : {bytes : List ℕ} {ls ms : List Line} → Printed bytes ls → Printed bytes ms → ls ≡ ms
printed_unique (refused a) (refused b) = refl
printed_unique (refused a) (read b _) = absurd (a b)
printed_unique (read a _) (refused b) = absurd (b a)
printed_unique (read a p) (read b q) = run_unique p q

text_unique : {bytes : List ℕ} (t u : List ℕ) → PrintedText bytes t → PrintedText bytes u → t ≡ u
text_unique _ _ (text p) (text q) = ap lines_text (printed_unique p q)

-- at most one answer and one buffer fit
pub once : {bytes old : List ℕ} {r r' : Written} {new new' : List ℕ} → Reported bytes old r new → Reported bytes old r' new' → (r ≡ r') × (new ≡ new')
once = put_one text_unique

-- the text that was put at the front of a buffer with that room, as it goes on
pub reported : {bytes old : List ℕ} {r : Written} {new : List ℕ} {scratch : List ℕ} (out : List ℕ) (n : ℕ) → length scratch ≡ room → Front (Printed bytes) scratch out n
    → r ≡ written_of (take n out) old → new ≡ buffer_of (take n out) old → Reported bytes old r new
reported out n l p e f =
    let w = p.fits in
    let z = p.place in
    put_as (front_text p) (text p.holds) (omega arith) e f

pub start : (s : Sheet) (old : List ℕ) → Printing s old old 1 0
unfolding lines_text
start s old = record { lines = []; joins = λ ls r. r; place = refl; buffer = sym (over_none old); fits = omega arith }

module _ {s : Sheet} {old out : List ℕ} {L at : ℕ} (p : Printing s old out L at) where
  pub same_size : length out ≡ length old
  same_size = let f = p.fits in let e = p.place in ap length p.buffer ∙ length_over (lines_text p.lines) old (omega arith)

  -- more lines, written into the part of the buffer from the place at on, which was lent and came back
  more_text : (ls : List Line) {r : ℕ} {last : List ℕ} → at + length (lines_text ls) ≤ length old → r ≡ length (lines_text ls)
      → last ≡ over (lines_text ls) (take (length out - at) (drop at out))
      → (at + r ≡ length (lines_text (p.lines ++ ls))) × (take at out ++ (last ++ drop (length out - at) (drop at out)) ≡ over (lines_text (p.lines ++ ls)) old)
  more_text ls {r} {last} h e f =
      let n = same_size in
      let l = ap length (lines_append p.lines ls) ∙ length-append (lines_text p.lines) (lines_text ls) in
      let k = p.place in (
        omega arith,
        part_back (lines_text ls) out at last (omega arith) f ∙ ap (pasted at (lines_text ls)) p.buffer
            ∙ extend (lines_text p.lines) (lines_text ls) old at p.place ∙ ap (λ (x : List ℕ). over x old) (sym (lines_append p.lines ls)),
      )

  -- the buffer keeps its length, whichever lines were written
  pub more_size : (ls : List Line) {r : ℕ} {last : List ℕ} → at + r ≤ length old → r ≡ length (lines_text ls)
      → last ≡ over (lines_text ls) (take (length out - at) (drop at out)) → length (take at out ++ (last ++ drop (length out - at) (drop at out))) ≡ length old
  more_size ls h e f = let m = more_text ls (omega arith) e f in let k = m.0 in ap length m.1 ∙ length_over (lines_text (p.lines ++ ls)) old (omega arith)

  pub finish : (ls : List Line) {r : ℕ} {last : List ℕ} → Run s L ls → at + length (lines_text ls) ≤ length old → r ≡ length (lines_text ls)
      → last ≡ over (lines_text ls) (take (length out - at) (drop at out))
      → Front (Run s 1) old (take at out ++ (last ++ drop (length out - at) (drop at out))) (at + r)
  finish ls t h e f = let m = more_text ls h e f in record { lines = p.lines ++ ls; holds = p.joins ls t; place = m.0; buffer = m.1; fits = omega arith }

  pub again : (a : PlanAnswer) {r : ℕ} {last : List ℕ} → L ≤ s.cap → PlanAt s L a → (a.answer ≡ 0 → ⊥)
      → at + length (lines_text (interval_lines s L a)) ≤ length old → r ≡ length (lines_text (interval_lines s L a))
      → last ≡ over (lines_text (interval_lines s L a)) (take (length out - at) (drop at out))
      → Printing s old (take at out ++ (last ++ drop (length out - at) (drop at out))) (L + 1) (at + r)
  again a {r} i q z h e f =
      let m = more_text (interval_lines s L a) h e f in
      record {
        lines = p.lines ++ interval_lines s L a;
        joins = λ ls t. rw (append_assoc p.lines (interval_lines s L a) ls) (p.joins (interval_lines s L a ++ ls) (goes_on i q z (rw add-one at t)));
        place = m.0;
        buffer = m.1;
        fits = omega arith;
      }
