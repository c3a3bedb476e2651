-- `text_line::put_text` meets its contract: the text goes in whole or the answer is 9.
-- From the laws of a writer's answers.
use mathlib.Core.Path.{◌∙◌}
use borrow.Author.Rules.{rules}
use Rattle.text.specs.Writing.{fitting, answer_0, answer_9}
use Rattle.text_line.proofs.put_text.Statement.{statement}
use Rattle.text_line.proofs.put_text.Tie as tie

returns : tie.Need-returns-then-out-text
returns c =
    let a = c.args in
    answer_9 a.text.now a.out.now c.if-out-text.true

put_bytes_requires : tie.Need-put_bytes-count-requires
put_bytes_requires c κs = search rules

same_length : tie.Need-shape_of-out
same_length c = search rules

returns_2 : tie.Need-returns
returns_2 c =
    let a = c.args in
    let h = c.if-out-text.false in
    let p = c.put_bytes-count in
    let g = fitting a.text.now a.out.now h in
    answer_0 a.text.now a.out.now p.new.out p.result h (p.ensures.0 ∙ g.0) (p.ensures.1 ∙ g.1)

pub put_text_spec : {M : Type 1} → statement M
put_text_spec = tie.close (tie.spec returns put_bytes_requires same_length returns_2)
