-- `report::put_answer` meets its contract.
-- From what `count_line` and `put_line` ensure, and the bound of the line.
use Prim.Native.Nat.{ℕ}
use mathlib.Core.Path.{◌≡◌, sym, ap, ◌∙◌}
use mathlib.Core.List.{List}
use Rattle.text.specs.Text.{buffer_of}
use Rattle.text.specs.Line.{text_of, count_of}
use Rattle.text.specs.Keys.{answer_key}
use Rattle.text.specs.Joined.{one_number}
use Rattle.text.specs.Writing.{fitting}
use Rattle.text.specs.Answers.{answer_line, refusal_text}
use Rattle.text.specs.Filling.{one_line}
use Rattle.text.specs.Bounds.{answer_most_lem}
use native.Mathlib.Omega.{arith}
use borrow.Author.Rules.{rules}
use Rattle.report.proofs.put_answer.Statement.{statement}
use Rattle.report.proofs.put_answer.Tie as tie

count_line_requires : tie.Need-count_line-requires
count_line_requires c κs = search rules

put_line_requires : tie.Need-put_line-requires
put_line_requires c κs = search rules

same_length : tie.Need-shape_of-out
same_length c = search rules

returns : tie.Need-returns
returns c =
    let s = c in
    let n = s.args.answer in
    let old = s.args.out.now in
    let p = c.put_line.ensures in
    let t : text_of c.count_line.result ≡ refusal_text n = one_number answer_key n (omega (arith, s.requires.0)) c.count_line.ensures ∙ sym (one_line (answer_line n)) in
    let b = answer_most_lem n s.requires.0 in
    let h = s.requires.1 in
    let g = fitting (refusal_text n) old (omega arith) in (
      p.0 ∙ ap (λ (x : List ℕ). count_of x old) t ∙ g.0,
      p.1 ∙ ap (λ (x : List ℕ). buffer_of x old) t ∙ g.1,
    )

pub put_answer_spec : {M : Type 1} → statement M
put_answer_spec =
    tie.close
    (tie.spec
    count_line_requires
    put_line_requires
    same_length
    returns)
