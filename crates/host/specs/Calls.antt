-- The C calls: the questions of reading a sheet, and then the service on its numbers; 5 without the edges.
use Rattle.std.specs.Prelude.{ℕ, ◌≡◌, List}
use Rattle.std.proofs.Common.{sym, ap, subst, ◌∙◌}
use Rattle.text.specs.declared.Written.{Written}
use Rattle.text.specs.Line as line
use Rattle.sheet.specs.declared.Sheet.{Sheet}
use Rattle.sheet.specs.Questions.{Asked, at_no, at_yes, Is}
use Rattle.reader.specs.declared.ReadAnswer.{ReadAnswer}
use Rattle.reader.specs.Read.{read_of}
use Rattle.plan.specs.declared.IntervalAnswer.{IntervalAnswer}
use Rattle.plan.specs.Answers.{LeastInterval}
use Rattle.page.specs.Answers.{PageAnswer, page_refused, PageAt}
use Rattle.judge.specs.Answers.{JudgedAt}
use Rattle.judge.specs.Bytes.{JudgeOf}
use Rattle.report.specs.declared.PlanWritten.{PlanWritten}
use Rattle.report.specs.PlanText.{PlanText}
use Rattle.pair_order.specs.declared.SlotOrder.{SlotOrder}
use Rattle.pair_order.specs.Answers.{SlotOrderAt}
use Rattle.host.specs.declared.OrderAnswer.{OrderAnswer}

-- least interval
pub data LeastOf (bytes : List ℕ) : IntervalAnswer → Type 0 where
  unread : ((read_of bytes).answer ≡ 0 → ⊥) → LeastOf bytes (record { answer = (read_of bytes).answer; interval = 0 })
  served : (read_of bytes).answer ≡ 0 → {r : IntervalAnswer} → LeastInterval (read_of bytes).sheet r → LeastOf bytes r

-- a plan writer's answer without the edges
abbrev pub text_answer : PlanWritten → Written
text_answer r = record { answer = r.answer; count = r.count }

-- a slot order's answer without the edges
abbrev pub order_answer : SlotOrder → OrderAnswer
order_answer r = record { answer = r.answer; order = r.order }

-- plan text into the lent buffer old: 5 and 6 write nothing
pub data PlanTextOf (bytes : List ℕ) (L : ℕ) (old : List ℕ) : Written → List ℕ → Type 0 where
  unread_text : ((read_of bytes).answer ≡ 0 → ⊥) → PlanTextOf bytes L old (line.refused (read_of bytes).answer) old
  served_text : (read_of bytes).answer ≡ 0 → {r : PlanWritten} {new : List ℕ} → PlanText (read_of bytes).sheet L old r new → PlanTextOf bytes L old (text_answer r) new

-- slot order
pub data SlotOrderOf (bytes : List ℕ) (L pair : ℕ) : OrderAnswer → Type 0 where
  unread_order : ((read_of bytes).answer ≡ 0 → ⊥) → SlotOrderOf bytes L pair (record { answer = (read_of bytes).answer; order = 0 })
  served_order : (read_of bytes).answer ≡ 0 → {r : SlotOrder} → SlotOrderAt (read_of bytes).sheet L pair r → SlotOrderOf bytes L pair (order_answer r)

-- page into the lent buffer old
abbrev pub PageOf : List ℕ → ℕ → List ℕ → List ℕ → List ℕ → PageAnswer → Type 0
PageOf bytes L ts us old =
    Asked ((read_of bytes).answer ≡ 0) (Is (page_refused old (read_of bytes).answer)) (PageAt (read_of bytes).sheet L ts us old)

-- from what reading gave
module _ (bytes : List ℕ) {q : ReadAnswer} (e : q ≡ read_of bytes) where
  same_answer : q.answer ≡ (read_of bytes).answer
  same_answer = ap (λ (x : ReadAnswer). x.answer) e

  pub least_unread : (q.answer ≡ 0 → ⊥) → LeastOf bytes (record { answer = q.answer; interval = 0 })
  least_unread n = subst (λ (k : ℕ). LeastOf bytes (record { answer = k; interval = 0 })) (sym same_answer) (unread (λ z. n (same_answer ∙ z)))

  pub least_served : q.answer ≡ 0 → {r : IntervalAnswer} → LeastInterval q.sheet r → LeastOf bytes r
  least_served z {r} l = served (sym same_answer ∙ z) (subst (λ (s : Sheet). LeastInterval s r) (ap (λ (x : ReadAnswer). x.sheet) e) l)

  pub text_unread : {L : ℕ} {old : List ℕ} → (q.answer ≡ 0 → ⊥) → PlanTextOf bytes L old (line.refused q.answer) old
  text_unread {L} {old} n = subst (λ (k : ℕ). PlanTextOf bytes L old (line.refused k) old) (sym same_answer) (unread_text (λ z. n (same_answer ∙ z)))

  pub text_served : {L : ℕ} {old new : List ℕ} {r : PlanWritten} → q.answer ≡ 0 → PlanText q.sheet L old r new → PlanTextOf bytes L old (text_answer r) new
  text_served {L} {old} {new} {r} z t = served_text (sym same_answer ∙ z) (subst (λ (s : Sheet). PlanText s L old r new) (ap (λ (x : ReadAnswer). x.sheet) e) t)

  pub order_unread : {L pair : ℕ} → (q.answer ≡ 0 → ⊥) → SlotOrderOf bytes L pair (record { answer = q.answer; order = 0 })
  order_unread {L} {pair} n = subst (λ (k : ℕ). SlotOrderOf bytes L pair (record { answer = k; order = 0 })) (sym same_answer) (unread_order (λ z. n (same_answer ∙ z)))

  pub order_served : {L pair : ℕ} {r : SlotOrder} → q.answer ≡ 0 → SlotOrderAt q.sheet L pair r → SlotOrderOf bytes L pair (order_answer r)
  order_served {L} {pair} {r} z l = served_order (sym same_answer ∙ z) (subst (λ (s : Sheet). SlotOrderAt s L pair r) (ap (λ (x : ReadAnswer). x.sheet) e) l)

  pub page_unread : {L : ℕ} {ts us old : List ℕ} → (q.answer ≡ 0 → ⊥) → PageOf bytes L ts us old (page_refused old q.answer)
  page_unread {old = old} n = at_no (λ z. n (same_answer ∙ z)) (ap (page_refused old) same_answer)

  pub page_served : {L : ℕ} {ts us old : List ℕ} {a : PageAnswer} → q.answer ≡ 0 → PageAt q.sheet L ts us old a → PageOf bytes L ts us old a
  page_served {L} {ts} {us} {old} {a} z p = at_yes (sym same_answer ∙ z) (subst (λ (s : Sheet). PageAt s L ts us old a) (ap (λ (x : ReadAnswer). x.sheet) e) p)

  pub judge_unread : (answer : List ℕ) → (q.answer ≡ 0 → ⊥) → JudgeOf bytes answer q.answer
  judge_unread answer n = at_no (λ z. n (same_answer ∙ z)) same_answer

  pub judge_served : (answer : List ℕ) {r : ℕ} → q.answer ≡ 0 → JudgedAt q.sheet answer r → JudgeOf bytes answer r
  judge_served answer {r} z p =
      at_yes (sym same_answer ∙ z) (subst (λ (s : Sheet). JudgedAt s answer r) (ap (λ (x : ReadAnswer). x.sheet) e) p)
