-- The rows of the table before a command's own are of other names.
use Rattle.std.proofs.Common.{sym, ◌∙◌}
use Rattle.words.specs.Requests.{starts_row, separations_row, plan_row, page_row, page_of_plan_row, table_row, order_row}
use Rattle.words.specs.Laws.{passed, found}
use Rattle.requests.proofs.at_interval.Goals as goal

-- `starts` at the interval
pub returns-then-same : goal.returns-then-same
returns-then-same c = c.taking.ensures ∙ sym (found starts_row _ _ _ c.same.ensures c.if-same.true)

-- `order` at the interval, of a pair
pub returns-then-same-7 : goal.returns-then-same-7
returns-then-same-7 c =
    c.taking-then-same-7.ensures
    ∙ sym
    (passed starts_row _ _ _ c.same.ensures c.if-same.false
    ∙ passed separations_row _ _ _ c.same-2.ensures c.if-same-2.false
    ∙ passed plan_row _ _ _ c.same-3.ensures c.if-same-3.false
    ∙ passed page_row _ _ _ c.same-4.ensures c.if-same-4.false
    ∙ passed page_of_plan_row _ _ _ c.same-5.ensures c.if-same-5.false
    ∙ passed table_row _ _ _ c.same-6.ensures c.if-same-6.false
    ∙ found order_row _ _ _ c.same-7.ensures c.if-same-7.true)
