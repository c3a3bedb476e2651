-- At most one answer, and one buffer, fits the bytes of a sheet: each C call answers by its arguments alone.
-- Assumes nothing.
use Rattle.std.specs.Prelude.{◌≡◌, refl, List, ℕ}
use Rattle.std.proofs.Common.{ap}
use Rattle.text.specs.declared.Written.{Written}
use Rattle.sheet.specs.Questions.{One, is_one, asked_one}
use Rattle.plan.specs.declared.IntervalAnswer.{IntervalAnswer}
use Rattle.plan.specs.Unique.{least_unique}
use Rattle.report.specs.PlanText.{once}
use Rattle.pair_order.specs.Unique.{slot_order_unique}
use Rattle.page.specs.Unique.{page_unique}
use Rattle.host.specs.declared.OrderAnswer.{OrderAnswer}
use Rattle.host.specs.Calls.{LeastOf, unread, served, PlanTextOf, unread_text, served_text, SlotOrderOf, unread_order, served_order, text_answer, order_answer, PageOf}

-- least interval
pub least_of_unique : {bytes : List ℕ} {r r' : IntervalAnswer} → LeastOf bytes r → LeastOf bytes r' → r ≡ r'
least_of_unique (unread n) (unread m) = refl
least_of_unique (unread n) (served z b) = absurd (n z)
least_of_unique (served z a) (unread m) = absurd (m z)
least_of_unique (served z a) (served y b) = least_unique _ _ a b

-- plan text: the answer and the buffer
pub plan_text_of_unique : {bytes : List ℕ} {L : ℕ} {old new new' : List ℕ} {r r' : Written} → PlanTextOf bytes L old r new → PlanTextOf bytes L old r' new' → (r ≡ r') × (new ≡ new')
plan_text_of_unique (unread_text n) (unread_text m) = (refl, refl)
plan_text_of_unique (unread_text n) (served_text z b) = absurd (n z)
plan_text_of_unique (served_text z a) (unread_text m) = absurd (m z)
plan_text_of_unique (served_text z a) (served_text y b) = let e = once a b in (ap text_answer e.0, e.1)

-- slot order
pub slot_order_of_unique : {bytes : List ℕ} {L pair : ℕ} {r r' : OrderAnswer} → SlotOrderOf bytes L pair r → SlotOrderOf bytes L pair r' → r ≡ r'
slot_order_of_unique (unread_order n) (unread_order m) = refl
slot_order_of_unique (unread_order n) (served_order z b) = absurd (n z)
slot_order_of_unique (served_order z a) (unread_order m) = absurd (m z)
slot_order_of_unique (served_order z a) (served_order y b) = ap order_answer (slot_order_unique _ _ a b)

-- page: the answer and the buffer
pub page_of_unique : (bytes : List ℕ) {L : ℕ} {ts us old : List ℕ} → One (PageOf bytes L ts us old)
page_of_unique bytes = asked_one (is_one _) page_unique
