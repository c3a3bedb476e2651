-- From the laws of a line of numbers.
use Rattle.std.proofs.Common.{ap, ◌∙◌}
use Rattle.text.specs.Line.{text_of}
use Rattle.text.specs.Joined.{of_numbers, numbers_text}
use Rattle.text_line.proofs.line_of.Goals as goal

pub returns : goal.returns
returns c =
    let a = c.args in
    let e = of_numbers a.key a.numbers.now c.copy_from_slice.new.self c.min-count.result c.min-count.ensures c.copy_from_slice.ensures.after in
    record { value = e; result_value = ap text_of e ∙ numbers_text a.key a.numbers.now }
