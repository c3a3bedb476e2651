-- Each pair ends past where it began, so less of the input is left.
use Rattle.std.proofs.Common.{◌-◌, length}
use Rattle.test_placing.proofs.answer_all.Given as goal

abbrev pub decreases-loop-at : goal.decreases-loop-at
decreases-loop-at g l = length l.input - l.at
