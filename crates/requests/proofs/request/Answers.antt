-- The rows of the table before a command's own are of other names.
use Rattle.std.proofs.Common.{sym, ◌∙◌}
use Rattle.words.specs.Requests.{bounds_row, check_row, write_row, judge_row}
use Rattle.words.specs.Laws.{passed, found}
use Rattle.requests.proofs.request.Goals as goal

-- `check`
pub returns-then-same-2 : goal.returns-then-same-2
returns-then-same-2 c =
    c.taking-then-same-2.ensures
    ∙ sym
    (passed bounds_row _ _ _ c.same.ensures c.if-same.false
    ∙ found check_row _ _ _ c.same-2.ensures c.if-same-2.true)

-- `judge`
pub returns-then-same-4 : goal.returns-then-same-4
returns-then-same-4 c =
    c.taking-then-same-4.ensures
    ∙ sym
    (passed bounds_row _ _ _ c.same.ensures c.if-same.false
    ∙ passed check_row _ _ _ c.same-2.ensures c.if-same-2.false
    ∙ passed write_row _ _ _ c.same-3.ensures c.if-same-3.false
    ∙ found judge_row _ _ _ c.same-4.ensures c.if-same-4.true)
