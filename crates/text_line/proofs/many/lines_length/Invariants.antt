-- The bytes of the lines before i are counted.
use Rattle.std.proofs.Common.{◌≤◌, ◌*◌, List}
use Rattle.text.specs.Lines as bytes
use Rattle.text.specs.Sizes.{longest_line}
use Rattle.text.specs.Filling.{Gives, Counted}
use Rattle.text_line.proofs.many.lines_length.Given as goal

abbrev pub invariant-loop-i : goal.invariant-loop-i
invariant-loop-i g l = record {
  most : l.total ≤ longest_line * l.i;
  lines : (ls : List bytes.Line) → Gives (goal.F-post g l.fn.line_at) l.fn.count ls → Counted ls l.i l.total;
}
