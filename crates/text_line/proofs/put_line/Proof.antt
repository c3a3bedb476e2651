-- `text_line::put_line` meets its contract: the line's length says whether it fits.
-- From the laws of text that fits a buffer and of text that does not.
use mathlib.Core.Path.{sym, ◌∙◌}
use native.Mathlib.Omega.{arith}
use borrow.Author.Rules.{rules}
use Rattle.text.specs.Line.{text_of}
use Rattle.text.specs.Writing.{fitting, too_long}
use Rattle.text_line.proofs.put_line.Statement.{statement}
use Rattle.text_line.proofs.put_line.Tie as tie

line_length_requires : tie.Need-line_length-requires
line_length_requires c κs = search rules

returns : tie.Need-returns-then-out-line_length
returns c =
    let a = c.args in
    let n = c.line_length.ensures.0 in
    let g = too_long (text_of a.line) a.out.now (omega arith) in
    (sym g.0, sym g.1)

fill_line_requires : tie.Need-fill_line-requires
fill_line_requires c κs = let n = c.line_length.ensures.0 in omega arith

same_length : tie.Need-shape_of-out
same_length c = search rules

returns_2 : tie.Need-returns
returns_2 c =
    let a = c.args in
    let n = c.line_length.ensures.0 in
    let f = c.fill_line.ensures in
    let g = fitting (text_of a.line) a.out.now (omega arith) in
    (f.0 ∙ sym g.0, f.1 ∙ sym g.1)

pub put_line_spec : {M : Type 1} → statement M
put_line_spec = tie.close (tie.spec line_length_requires returns fill_line_requires same_length returns_2)
