-- `judge_command::answer` meets its contract: the list has one line, that of the number.
-- From what `examine`, `count_line`, `none`, `with` and `put` ensure.
use mathlib.Core.Path.{ap, ◌∙◌}
use Rattle.lines.specs.declared.Lines.{Lines}
use Rattle.lines.specs.Lines.{with_line}
use Rattle.judge_command.specs.Printed.{printed}
use borrow.Author.Rules.{rules}
use Rattle.judge_command.proofs.answer.Statement.{statement}
use Rattle.judge_command.proofs.answer.Tie as tie

examine_requires : tie.Need-examine-found-requires
examine_requires c κs = search rules

count_line_requires : tie.Need-count_line-line-requires
count_line_requires c κs = search rules

none_requires : tie.Need-none-requires
none_requires c κs = search rules

with_requires : tie.Need-with-requires
with_requires c κs = search rules

put_requires : tie.Need-put-requires
put_requires c κs = search rules

same_length : tie.Need-shape_of-out
same_length c = search rules

returns : tie.Need-returns
returns c =
    let p = c in
    let w = p in
    let n = w in
    let l = n in
    let x = l in
    let s = x in
    printed s.args.bytes.now s.args.given.now x.examine-found.ensures.answer l.count_line-line.result l.count_line-line.ensures
    (w.with.ensures ∙ ap (λ (ls : Lines). with_line ls l.count_line-line.result) n.none.ensures) p.put.ensures.0 p.put.ensures.1

pub answer_spec : {M : Type 1} → statement M
answer_spec =
    tie.close
    (tie.spec
    examine_requires
    count_line_requires
    none_requires
    with_requires
    put_requires
    same_length
    returns)
