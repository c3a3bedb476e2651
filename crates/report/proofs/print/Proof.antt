-- `report::print` meets its contract: the refusals of reading, and then the intervals of the sheet that was read.
-- From what `read`, `put_answer` and `run` ensure, the bound of a reading's refusal, and that a sheet read is in range.
use Prim.Native.Nat.{ℕ}
use mathlib.Core.Path.{◌≡◌, sym, ap, subst, ◌∙◌}
use mathlib.Core.List.{[], ◌∷◌}
use Rattle.text.specs.Answers.{answer_line}
use Rattle.sheet.specs.declared.Sheet.{Sheet}
use Rattle.sheet.specs.Sheet.{InRange}
use Rattle.reader.specs.declared.ReadAnswer.{ReadAnswer}
use Rattle.reader.specs.Read.{read_of}
use Rattle.report.specs.Print.{Run, Printed, refused, read}
use Rattle.text.specs.Bounds.{answer_most_lem}
use Rattle.round_trip.proofs.Reading.{read_small, read_in_range}
use Rattle.report.specs.Printing.{weaken}
use native.Mathlib.Omega.{arith}
use borrow.Author.Rules.{rules}
use Rattle.report.proofs.print.Statement.{statement}
use Rattle.report.proofs.print.Tie as tie

read_requires : tie.Need-read-read-requires
read_requires c κs = search rules

put_answer_requires : tie.Need-put_answer-requires
put_answer_requires c κs =
    let e = ap (λ (x : ReadAnswer). x.answer) c.read-read.ensures in
    let h = read_small c.args.bytes.now in
    (omega arith, omega arith)

same_length : tie.Need-shape_of-out-then-answer-ne0
same_length c = search rules

returns : tie.Need-returns-then-answer-ne0
returns c =
    let bs = c.args.bytes.now in
    let r = c.read-read in
    let e : r.result.answer ≡ (read_of bs).answer = ap (λ (x : ReadAnswer). x.answer) r.ensures in
    let h = read_small bs in
    let f = c.put_answer.ensures in
    let b = answer_most_lem r.result.answer (omega arith) in
    let q = f.0 in
    let m = c.requires in
    record {
      lines = answer_line r.result.answer ∷ [];
      holds = subst (λ (n : ℕ). Printed bs (answer_line n ∷ [])) (sym e) (refused (λ z. c.if-answer-ne0.true (e ∙ z)));
      place = f.0;
      buffer = f.1;
      fits = omega arith;
    }

run_requires : tie.Need-run-requires
run_requires c κs =
    let bs = c.args.bytes.now in
    let r = c.read-read in
    let e = ap (λ (x : ReadAnswer). x.answer) r.ensures in
    let g = ap (λ (x : ReadAnswer). x.sheet) r.ensures in
    (subst InRange (sym g) (read_in_range bs (sym e ∙ c.if-answer-ne0.false)), c.requires)

same_length_2 : tie.Need-shape_of-out
same_length_2 c = search rules

returns_2 : tie.Need-returns
returns_2 c =
    let r = c.read-read in
    let e = ap (λ (x : ReadAnswer). x.answer) r.ensures in
    let g = ap (λ (x : ReadAnswer). x.sheet) r.ensures in
    weaken (λ ls t. read (sym e ∙ c.if-answer-ne0.false) (subst (λ (s : Sheet). Run s 1 ls) g t)) c.run.ensures

pub print_spec : {M : Type 1} → statement M
print_spec =
    tie.close
    (tie.spec
    read_requires
    put_answer_requires
    same_length
    returns
    run_requires
    same_length_2
    returns_2)
