-- The line is written up to the place reached, and the numbers from i on are still to come.
use Rattle.std.proofs.Common.{drop}
use Rattle.text.specs.Text.{joined}
use Rattle.text.specs.Line.{text_of}
use Rattle.text.specs.Progress.{Progress}
use Rattle.text_line.proofs.fill_line.Given as goal

abbrev pub invariant-loop-i : goal.invariant-loop-i
invariant-loop-i l = Progress (text_of l.fn.line) l.fn.out l.out (joined (drop l.i l.numbers)) l.at
