-- `table_command::steps::put_answer` meets its contract: one line after the other.
-- From what `count_line` and `put_line_at` ensure.
use native.Mathlib.Omega.{arith}
use mathlib.Core.Path.{◌≡◌, sym, ap, ◌∙◌}
use lib.ListN.{length}
use Rattle.text.specs.Keys.{answer_key, instance_key}
use Rattle.text.specs.Line.{text_of}
use Rattle.text.specs.Lines.{line_text_of}
use Rattle.text.specs.Answers.{answer_line, instance_line}
use Rattle.text.specs.Joined.{one_number}
use Rattle.text.specs.Pasting.{pasted_as, pasted_then}
use Rattle.table_command.specs.Widths.{lines_refused, lines_given, answer_short, instance_short}
use borrow.Author.Rules.{rules}
use Rattle.table_command.proofs.steps.put_answer.Statement.{statement}
use Rattle.table_command.proofs.steps.put_answer.Tie as tie

-- the texts of the two lines
answer_text : (c : tie.After-count_line) → text_of c.count_line.result ≡ line_text_of (answer_line c.args.done.answer)
answer_text c = let s = c in one_number answer_key s.args.done.answer (omega (arith, s.requires.0.answer)) c.count_line.ensures

instance_text : (c : tie.After-count_line-2) → text_of c.count_line-2.result ≡ line_text_of (instance_line c.args.done.instance)
instance_text c =
    let s = c in
    one_number instance_key s.args.done.instance (omega (arith, s.requires.0.instance)) c.count_line-2.ensures

count_line_requires : tie.Need-count_line-requires
count_line_requires c κs = search rules

put_line_at_requires : tie.Need-put_line_at-after-requires
put_line_at_requires c κs =
    let s = c in
    omega (arith, ap length (answer_text c), answer_short s.args.done s.requires.0, s.requires.1)

same_length : tie.Need-shape_of-out-then-done-ne0
same_length c = search rules

returns : tie.Need-returns-then-done-ne0
returns c =
    let n = c.before.before.before.before.before in
    let s = n in
    pasted_as (answer_text n ∙ sym (lines_refused s.args.done c.if-done-ne0.true)) c.put_line_at-after.ensures

count_line_requires_2 : tie.Need-count_line-requires-2
count_line_requires_2 c κs = search rules

put_line_at_requires_2 : tie.Need-put_line_at-requires
put_line_at_requires_2 c κs =
    let n = c.before.before.before.before.before.before.before in
    let s = n in
    let p = c.put_line_at-after.ensures in
    omega
    (arith, ap length (answer_text n), answer_short s.args.done s.requires.0, ap length (instance_text c), instance_short s.args.done s.requires.0, p.ends, p.size, s.requires.1)

same_length_2 : tie.Need-shape_of-out
same_length_2 c = search rules

returns_2 : tie.Need-returns
returns_2 c =
    let m = c.before.before.before in
    let n = m.before.before.before.before.before.before.before in
    let s = n in
    let h = s.requires.1 in
    pasted_as (sym (lines_given s.args.done m.if-done-ne0.false))
    (pasted_then (omega arith) (pasted_as (answer_text n) m.put_line_at-after.ensures) (pasted_as (instance_text m) c.put_line_at.ensures))

pub put_answer_spec : {M : Type 1} → statement M
put_answer_spec =
    tie.close
    (tie.spec
    count_line_requires
    put_line_at_requires
    same_length
    returns
    count_line_requires_2
    put_line_at_requires_2
    same_length_2
    returns_2)
