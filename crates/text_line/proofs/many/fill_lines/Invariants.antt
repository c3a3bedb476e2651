-- The lines before i are written, up to the place reached.
use Rattle.std.proofs.Common.{◌≡◌, ◌≤◌, List, length}
use Rattle.text.specs.Lines as bytes
use Rattle.text.specs.Filling.{Gives, Filled}
use Rattle.text_line.proofs.many.fill_lines.Given as goal

abbrev pub invariant-loop-i : goal.invariant-loop-i
invariant-loop-i g l = record {
  within : l.at ≤ length l.out;
  lines : (ls : List bytes.Line) → Gives (goal.F-post g l.fn.line_at) l.fn.count ls → length (bytes.lines_text ls) ≤ length l.fn.out → Filled ls l.fn.out l.out l.i l.at;
}
