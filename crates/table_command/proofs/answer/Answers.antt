use Rattle.std.proofs.Common.{◌≡◌, ◌≤◌, refl, sym, ap, subst, ◌∙◌, arith}
use Rattle.text.specs.Answers.{refusal_text}
use Rattle.text.specs.Bounds.{answer_most_lem}
use Rattle.text.specs.PutLaws.{put_as}
use Rattle.refusal.specs.Number.{no_zero}
use Rattle.sheet.specs.declared.Sheet.{Sheet}
use Rattle.sheet.specs.Sheet.{InRange}
use Rattle.sheet.specs.Questions.{at_no, at_yes, AtInterval, accepted, refuses, goes_on}
use Rattle.reader.specs.declared.ReadAnswer.{ReadAnswer}
use Rattle.reader.specs.Read.{read_of}
use Rattle.round_trip.proofs.Reading.{read_small, read_in_range}
use Rattle.table_script.specs.Ahead.{sound}
use Rattle.table_command.specs.Prints.{TableText}
use Rattle.table_command.specs.Small.{interval_small}
use Rattle.table_command.specs.Whole.{listed_text, nothing_printed, printed}
use Rattle.table_command.proofs.answer.Goals as goal

pub returns-then-line_at_fault-ne0 : goal.returns-then-line_at_fault-ne0
returns-then-line_at_fault-ne0 c =
    let w = c.put_text.ensures in
    put_as refl (nothing_printed c.args.script.now (λ z. c.if-line_at_fault-ne0.true (c.line_at_fault.ensures ∙ z))) (omega arith) w.value w.out_after

pub put_refusal-requires : goal.put_refusal-requires
put_refusal-requires c = omega (arith, ap (λ (x : ReadAnswer). x.answer) c.read-read.ensures, read_small c.args.bytes.now)

pub returns-then-refusal-ne0 : goal.returns-then-refusal-ne0
returns-then-refusal-ne0 c =
    let w = c.put_refusal.ensures in
    let e : c.read-read.result.answer ≡ (read_of c.args.bytes.now).answer = ap (λ (x : ReadAnswer). x.answer) c.read-read.ensures in
    let h : c.read-read.result.answer ≤ 999 = omega (arith, e, read_small c.args.bytes.now) in
    let all = sound c.args.script.now (sym c.line_at_fault.ensures ∙ c.if-line_at_fault-ne0.false) in
    put_as refl (printed c.args.script.now all.1 (at_no (λ z. c.if-refusal-ne0.true (e ∙ z)) (ap refusal_text e))) (omega (arith, answer_most_lem c.read-read.result.answer h)) w.value w.out_after

pub put_refusal-requires-in-Err : goal.put_refusal-requires-in-Err
put_refusal-requires-in-Err c =
    let e : c.read-read.result.answer ≡ (read_of c.args.bytes.now).answer = ap (λ (x : ReadAnswer). x.answer) c.read-read.ensures in
    let e2 : c.read-read.result.sheet ≡ (read_of c.args.bytes.now).sheet = ap (λ (x : ReadAnswer). x.sheet) c.read-read.ensures in
    let ok : InRange c.read-read.result.sheet = subst InRange (sym e2) (read_in_range c.args.bytes.now (sym e ∙ c.if-refusal-ne0.false)) in
    omega (arith, c.number.ensures, interval_small ok c.in-Err.ensures)

pub returns-in-Err : goal.returns-in-Err
returns-in-Err c =
    let w = c.put_refusal-in-Err.ensures in
    let s = c.args in
    let e : c.read-read.result.answer ≡ (read_of s.bytes.now).answer = ap (λ (x : ReadAnswer). x.answer) c.read-read.ensures in
    let e2 : c.read-read.result.sheet ≡ (read_of s.bytes.now).sheet = ap (λ (x : ReadAnswer). x.sheet) c.read-read.ensures in
    let ok : InRange c.read-read.result.sheet = subst InRange (sym e2) (read_in_range s.bytes.now (sym e ∙ c.if-refusal-ne0.false)) in
    let n = c.number.result in
    let h : n ≤ 999 = omega (arith, c.number.ensures, interval_small ok c.in-Err.ensures) in
    let all = sound s.script.now (sym c.line_at_fault.ensures ∙ c.if-line_at_fault-ne0.false) in
    put_as refl (printed s.script.now all.1 (at_yes (sym e ∙ c.if-refusal-ne0.false)
    (subst (λ (x : Sheet). AtInterval refusal_text x s.interval (TableText x s.interval all.0) (refusal_text n)) e2
    (refuses refusal_text c.in-Err.ensures (no_zero _) (ap refusal_text c.number.ensures))))) (omega (arith, answer_most_lem n h)) w.value w.out_after

pub put_table-count-requires : goal.put_table-count-requires
put_table-count-requires c = (accepted c.in_default.ensures refl, sym c.line_at_fault.ensures ∙ c.if-line_at_fault-ne0.false, omega arith)

pub slice_bounds-text-end : goal.slice_bounds-text-end
slice_bounds-text-end c = let l = c.put_table-count.ensures in omega (arith, l.pasted.ends, l.pasted.size, l.short)

pub returns : goal.returns
returns c =
    let w = c.put_text-2.ensures in
    let s = c.args in
    let e : c.read-read.result.answer ≡ (read_of s.bytes.now).answer = ap (λ (x : ReadAnswer). x.answer) c.read-read.ensures in
    let e2 : c.read-read.result.sheet ≡ (read_of s.bytes.now).sheet = ap (λ (x : ReadAnswer). x.sheet) c.read-read.ensures in
    let l = c.put_table-count.ensures in
    put_as (listed_text l) (printed s.script.now l.whole (at_yes (sym e ∙ c.if-refusal-ne0.false)
    (subst (λ (x : Sheet). AtInterval refusal_text x s.interval (TableText x s.interval l.all) l.text) e2
    (goes_on refusal_text (accepted c.in_default.ensures refl) l.holds)))) (omega (arith, l.short)) w.value w.out_after
