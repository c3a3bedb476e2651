-- `commands::answer` meets its contract: a refused sheet, or the command on the sheet that was read.
-- From what `read`, `line_at_fault`, `refusal_lines`, `put` and `serve` ensure.
use Prim.Native.Nat.{ℕ}
use mathlib.Core.Path.{◌≡◌, sym, ap, subst, ◌∙◌}
use Rattle.text.specs.Lines.{lines_text}
use Rattle.text.specs.PutLaws.{weaken}
use Rattle.sheet.specs.declared.Sheet.{Sheet}
use Rattle.sheet.specs.Sheet.{InRange, Arrays}
use Rattle.reader.specs.declared.ReadAnswer.{ReadAnswer}
use Rattle.reader.specs.Read.{read_of}
use Rattle.reader.specs.FaultLaws.{fault_small}
use Rattle.round_trip.proofs.RoundTrip.{only_text}
use Rattle.round_trip.proofs.Reading.{read_small}
use Rattle.command_lines.specs.Listing.{refusal_lines}
use Rattle.command_lines.specs.Shows.{lists}
use Rattle.command_lines.specs.Answers.{put}
use Rattle.command_lines.specs.Prints.{Serves, Prints, refused, read}
use native.Mathlib.Omega.{arith}
use borrow.Author.Rules.{rules}
use Rattle.commands.proofs.answer.Statement.{statement}
use Rattle.commands.proofs.answer.Tie as tie

read_requires : tie.Need-read-read-requires
read_requires c κs = search rules

line_at_fault_requires : tie.Need-line_at_fault-requires
line_at_fault_requires c κs = search rules

refusal_lines_requires : tie.Need-refusal_lines-requires
refusal_lines_requires c κs =
    let r = c in
    let bs = r.args.bytes.now in
    let e = ap (λ (x : ReadAnswer). x.answer) r.read-read.ensures in
    let h = read_small bs in
    let f = fault_small bs in
    let g = c.line_at_fault.ensures in
    (omega arith, omega arith)

put_requires : tie.Need-put-requires
put_requires c κs = search rules

same_length : tie.Need-shape_of-out-then-refusal-ne0
same_length c = search rules

returns : tie.Need-returns-then-refusal-ne0
returns c =
    let l = c in
    let f = l.line_at_fault.ensures in
    let i = l in
    let r = i.read-read in
    let s = i in
    let bs = s.args.bytes.now in
    let e : r.result.answer ≡ (read_of bs).answer = ap (λ (x : ReadAnswer). x.answer) r.ensures in
    let w = c.put.ensures in
    put (lists l.refusal_lines.ensures
    (subst (λ (n : ℕ). Prints bs s.args.command (lines_text (refusal_lines s.args.command n l.line_at_fault.result))) (sym e)
    (subst (λ (k : ℕ). Prints bs s.args.command (lines_text (refusal_lines s.args.command (read_of bs).answer k))) (sym f) (refused (λ z. i.if-refusal-ne0.true (e ∙ z)))))) w.0 w.1

serve_requires : tie.Need-serve-requires
serve_requires c κs =
    let i = c in
    let r = i.read-read in
    let bs = i.args.bytes.now in
    let e = ap (λ (x : ReadAnswer). x.answer) r.ensures in
    let a = only_text bs (sym e ∙ i.if-refusal-ne0.false) in
    subst (λ (s : Sheet). InRange s × Arrays s) (sym (ap (λ (x : ReadAnswer). x.sheet) (r.ensures ∙ a.result))) (a.in_range, a.arrays)

same_length_2 : tie.Need-shape_of-out
same_length_2 c = search rules

returns_2 : tie.Need-returns
returns_2 c =
    let i = c in
    let r = i.read-read in
    let s = i in
    let e = ap (λ (x : ReadAnswer). x.answer) r.ensures in
    let g = ap (λ (x : ReadAnswer). x.sheet) r.ensures in
    weaken (λ t p. read (sym e ∙ i.if-refusal-ne0.false) (subst (λ (x : Sheet). Serves x s.args.command t) g p)) c.serve.ensures

pub answer_spec : {M : Type 1} → statement M
answer_spec =
    tie.close
    (tie.spec
    read_requires
    line_at_fault_requires
    refusal_lines_requires
    put_requires
    same_length
    returns
    serve_requires
    same_length_2
    returns_2)
