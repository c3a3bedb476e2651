-- At most one answer and one buffer fit an input. Assumes nothing.
use Rattle.std.specs.Prelude.{ℕ, List}
use Rattle.sheet.specs.declared.Sheet.{Sheet}
use Rattle.sheet.specs.Questions.{One, is_one, asked_one, at_interval_one}
use Rattle.page.specs.Answers.{plan_page, page_refused, printed, PageAt}

pub page_unique : {s : Sheet} {L : ℕ} {ts us old : List ℕ} → One (PageAt s L ts us old)
page_unique {s} {L} {ts} {us} {old} =
    at_interval_one (page_refused old)
    (asked_one (is_one (page_refused old 9))
    (asked_one (is_one (page_refused old 10))
    (is_one (printed (plan_page s L ts us) old))))
