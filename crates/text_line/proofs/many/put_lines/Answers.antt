-- From the laws of a writer's answers.
use Rattle.std.proofs.Common.{arith}
use Rattle.text.specs.Lines.{lines_text}
use Rattle.text.specs.Writing.{answer_0, answer_9}
use Rattle.text_line.proofs.many.put_lines.Goals as goal

pub returns-then-out-lines_length : goal.returns-then-out-lines_length
returns-then-out-lines_length g c = λ ls w.
    let n = c.lines_length.ensures ls w in
    answer_9 (lines_text ls) c.args.out.now (omega arith)

pub returns : goal.returns
returns g c = λ ls w.
    let n = c.lines_length.ensures ls w in
    let f = c.fill_lines-count.ensures ls w (omega arith) in
    answer_0 (lines_text ls) c.args.out.now _ c.fill_lines-count.result (omega arith) f.0 f.1
