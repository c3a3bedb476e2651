-- Entries past R, N or E are no part of a sheet: sheets that differ only there get the same page. Assumes nothing.
use Rattle.std.specs.Prelude.{ℕ, ◌≤◌, ◌<◌, ◌≡◌, List, length}
use Rattle.std.proofs.Common.{sym, ap, ap₂, subst, ◌∙◌}
use Rattle.sheet.specs.declared.Sheet.{Sheet}
use Rattle.sheet.specs.declared.Operation.{Operation}
use Rattle.sheet.specs.declared.ResourceType.{ResourceType}
use Rattle.sheet.specs.Sheet.{InRange, Interval, op_at, type_at}
use Rattle.sheet.specs.Questions.{Asked, at_no, at_yes, Is}
use Rattle.sheet.specs.Entries.{SameSheet, turn, range_same, at_interval_same}
use Rattle.placing_table.specs.declared.Table.{Table}
use Rattle.placing_table.specs.Table.{placement_at, Consistent}
use Rattle.placing_table.specs.SameEntries.{consistent_same}
use Rattle.page_text.specs.Page.{type_lines, uses, last_of, user_of, type_text, page_text}
use Rattle.page_text.specs.Joining.{up_same}
use Rattle.page_text.specs.Users.{last_same}
use Rattle.page_text.specs.Widths.{lines_to, page_lines}
use Rattle.page.specs.Answers.{full_table, plan_page, Fits, Tabled, IfTabled, PageAnswer, page_refused, printed, PageAt}

module _ {s s' : Sheet} (e : SameSheet s s') (L : ℕ) where
  user_same : (table : Table) (r : ℕ) → r < s.type_count → (slot' a : ℕ) → user_of s L table r slot' a ≡ user_of s' L table r slot' a
  user_same table r l slot' a =
      last_same s.op_count (λ i. uses L (type_at s r).busy (op_at s i).resource (placement_at table i) r slot' a) (λ i. uses L (type_at s' r).busy (op_at s' i).resource (placement_at table i) r slot' a)
      (λ i h. ap₂ (λ (t : ResourceType) (o : Operation). uses L t.busy o.resource (placement_at table i) r slot' a) (e.each_type r l) (e.each_op i h))
      ∙ ap (λ (n : ℕ). last_of n (λ i. uses L (type_at s' r).busy (op_at s' i).resource (placement_at table i) r slot' a)) e.op_count

  users_same : (table : Table) (r : ℕ) → r < s.type_count → user_of s L table r ≡ user_of s' L table r
  users_same table r l = λ i slot' a. user_same table r l slot' a i

  text_same : (table : Table) → page_text s L table ≡ page_text s' L table
  text_same table =
      page_lines s L table
      ∙ up_same s.type_count (type_text s L table) (type_text s' L table)
      (λ r h. ap₂ (λ (A : ℕ) (user : ℕ → ℕ → ℕ). type_lines L A user r) (ap (λ (t : ResourceType). t.instances) (e.each_type r h)) (users_same table r h))
      ∙ ap (lines_to s' L table) e.type_count ∙ sym (page_lines s' L table)

  plan_page_same : (ts us : List ℕ) → plan_page s L ts us ≡ plan_page s' L ts us
  plan_page_same ts us = ap (λ (n : ℕ). page_text s L (full_table n ts us)) e.op_count ∙ text_same (full_table s'.op_count ts us)

  tabled_same : InRange s → {ts us : List ℕ} → Tabled s L ts us → Tabled s' L ts us
  tabled_same ok {ts} {us} f = record {
    starts = f.starts ∙ e.op_count;
    instances = f.instances ∙ e.op_count;
    consistent = subst (λ (n : ℕ). Consistent s' L (full_table n ts us)) e.op_count (consistent_same e ok f.consistent);
  }

pub page_same : {s s' : Sheet} → SameSheet s s' → {L : ℕ} {ts us old : List ℕ} {a : PageAnswer} → PageAt s L ts us old a → PageAt s' L ts us old a
page_same {s} {s'} e {L} {ts} {us} {old} {a} = at_interval_same e (page_refused old) at
  where
    Within : List ℕ → Type 0
    Within text = length text ≤ length old

    full : InRange s → IfTabled (page_refused old) s L ts us (Is (printed (plan_page s L ts us) old)) a
        → IfTabled (page_refused old) s' L ts us (Is (printed (plan_page s' L ts us) old)) a
    full ok (at_no n p) = at_no (λ f. n (tabled_same (turn e) L (range_same e ok) f)) p
    full ok (at_yes f p) = at_yes (tabled_same e L ok f) (p ∙ ap (λ (text : List ℕ). printed text old) (plan_page_same e L ts us))

    at : InRange s → Interval s L → Asked (Fits s L ts us old) (Is (page_refused old 9)) (IfTabled (page_refused old) s L ts us (Is (printed (plan_page s L ts us) old))) a
        → Asked (Fits s' L ts us old) (Is (page_refused old 9)) (IfTabled (page_refused old) s' L ts us (Is (printed (plan_page s' L ts us) old))) a
    at ok i (at_no n p) = at_no (λ f. n (subst Within (sym (plan_page_same e L ts us)) f)) p
    at ok i (at_yes f q) = at_yes (subst Within (plan_page_same e L ts us) f) (full ok q)
