-- The bytes counted and those of the numbers still to come make the whole line.
use Rattle.std.proofs.Common.{◌≡◌, ◌+◌, ◌*◌, ◌≤◌, length, drop}
use Rattle.text.specs.Sizes.{longest_key, longest_number}
use Rattle.text.specs.Text.{joined}
use Rattle.text.specs.Line.{text_of}
use Rattle.text_line.proofs.line_length.Given as goal

abbrev pub invariant-loop-v : goal.invariant-loop-v
invariant-loop-v l = record {
  most : l.total ≤ longest_key + (longest_number + 1) * l.v-index;
  rest : l.total + length (joined (drop l.v-index l.v-items)) ≡ length (text_of l.fn.line);
}
