-- A line that ends where its numbers do is the argument.
use Rattle.std.proofs.Common.{◌≤◌, length, arith}
use Rattle.words.specs.Laws.{number}
use Rattle.words.proofs.number_after.Goals as goal

pub returns : goal.returns
returns c =
    let read = c.in_ok-read.read in
    let ends : length c.args.line.now ≤ read.next = omega arith in
    number _ _ read c.in_ok-read.ensures.result_value c.in_ok-read.ensures.line_fits ends
