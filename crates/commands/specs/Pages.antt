-- From the answer of the service "page" to what is printed. A buffer that takes any page is never too short.
-- Assumes nothing.
use Rattle.std.specs.Prelude.{◌≡◌, List, ℕ, ◌≤◌, length, drop}
use Rattle.std.proofs.Math.Path.{refl, ap, subst}
use Rattle.std.proofs.Common.{sym, ◌∙◌, arith}
use Rattle.std.proofs.Math.ListN.{take}
use Rattle.std.proofs.Math.Seq.{take_at}
use Rattle.text.specs.declared.Written.{Written}
use Rattle.text.specs.Text.{over, buffer_of}
use Rattle.text.specs.Line.{written_of}
use Rattle.text.specs.Writing.{length_over}
use Rattle.text.specs.Sizes.{three_digits}
use Rattle.text.specs.Answers.{refusal_text}
use Rattle.text.specs.PutLaws.{put_as}
use Rattle.sheet.specs.declared.Sheet.{Sheet}
use Rattle.sheet.specs.Sheet.{InRange}
use Rattle.sheet.specs.Facts.{ops_most}
use Rattle.sheet.specs.Questions.{at_no, at_yes, Accepted}
use Rattle.plan.specs.declared.PlanAnswer.{PlanAnswer}
use Rattle.plan.specs.Answers.{PlanAt}
use Rattle.plan.specs.Exactly.{accepted_given, given_first}
use Rattle.page_text.specs.Widths.{longest_page, page_long, page_most}
use Rattle.page.specs.Answers.{full_table, plan_page, Tabled, PageAnswer, PageAt}
use Rattle.page.specs.OfPlans.{cut_page, plan_full}
use Rattle.words.specs.declared.Command.TheVariants.{Page}
use Rattle.command_lines.specs.Listing.{first_page}
use Rattle.command_lines.specs.Prints.{Serves, page, ServesPage, Put}
use Rattle.command_lines.specs.Answers.{page_given}

abbrev number : PageAnswer → ℕ
number a = a.written.answer

abbrev Within : PageAnswer → Type 0
Within a = a.written.count ≤ length a.buffer

module _ {s : Sheet} {L : ℕ} (ok : InRange s) {ts us old : List ℕ} (enough : longest_page ≤ length old) {a : PageAnswer} where
  -- a refusal is 4 or 10
  pub page_refused_lem : PageAt s L ts us old a → (number a ≡ 0 → ⊥) → ServesPage s L ts us (refusal_text (number a)) × (number a ≤ three_digits)
  page_refused_lem (at_no n _) z = absurd (n ok)
  page_refused_lem (at_yes r (at_no n e)) z = let q = ap number e in (at_yes r (at_no n (ap refusal_text q)), omega arith)
  page_refused_lem (at_yes r (at_yes i (at_no n _))) z =
      let y : Accepted s L = record { sheet = r; interval = i } in
      absurd (n (omega (arith, page_long y (full_table s.op_count ts us), page_most y)))
  page_refused_lem (at_yes r (at_yes i (at_yes f (at_no n e)))) z = let q = ap number e in (at_yes r (at_yes i (at_no n (ap refusal_text q))), omega arith)
  page_refused_lem (at_yes r (at_yes i (at_yes f (at_yes t e)))) z = absurd (z (ap number e))

  -- with 0 the page stands at the front of the buffer
  page_printed : PageAt s L ts us old a → number a ≡ 0
      → ServesPage s L ts us (plan_page s L ts us) × (take a.written.count a.buffer ≡ plan_page s L ts us) × (length (plan_page s L ts us) ≤ longest_page)
  unfolding over
  page_printed (at_no n _) z = absurd (n ok)
  page_printed (at_yes r (at_no n e)) z = absurd (omega (arith, ap number e))
  page_printed (at_yes r (at_yes i (at_no n e))) z = absurd (omega (arith, ap number e))
  page_printed (at_yes r (at_yes i (at_yes f (at_no n e)))) z = absurd (omega (arith, ap number e))
  page_printed (at_yes r (at_yes i (at_yes f (at_yes t e)))) z =
      let y : Accepted s L = record { sheet = r; interval = i } in
      let text = plan_page s L ts us in
      let w : take (length text) (over text old) ≡ text = take_at text (drop (length text) old) (length text) refl in (
        at_yes r (at_yes i (at_yes t refl)),
        subst (λ (x : PageAnswer). take x.written.count x.buffer ≡ text) (sym e) w,
        omega (arith, page_long y (full_table s.op_count ts us), page_most y),
      )

  pub given_put : PageAt s L ts us old a → number a ≡ 0 → {out new : List ℕ} {r : Written}
      → r ≡ written_of (take a.written.count a.buffer) out → new ≡ buffer_of (take a.written.count a.buffer) out → Put (ServesPage s L ts us) out r new
  given_put p z e f =
      let q = page_printed p z in
      put_as q.1 q.0 (omega (arith, q.2)) e f

  -- the bytes counted are bytes of the buffer
  pub page_within : PageAt s L ts us old a → a.written.count ≤ length a.buffer
  page_within (at_no n _) = absurd (n ok)
  page_within (at_yes r (at_no n e)) = subst Within (sym e) (omega arith)
  page_within (at_yes r (at_yes i (at_no n e))) = subst Within (sym e) (omega arith)
  page_within (at_yes r (at_yes i (at_yes f (at_no n e)))) = subst Within (sym e) (omega arith)
  page_within (at_yes r (at_yes i (at_yes f (at_yes t e)))) =
      let y : Accepted s L = record { sheet = r; interval = i } in
      let text = plan_page s L ts us in
      let h = page_long y (full_table s.op_count ts us) in
      subst Within (sym e) (omega (arith, length_over text old (omega arith)))

-- the page of the first plan is the page of its starts and instances
pub first_served : {s : Sheet} {L : ℕ} {a : PlanAnswer} → PlanAt s L a → a.answer ≡ 0
    → (text : List ℕ) → ServesPage s L (take s.op_count a.starts) (take s.op_count a.instances) text → Serves s (Page L) text
first_served {s} {L} {a} p z text served = subst (Serves s (Page L)) (sym (at served)) (page p)
  where
    full : Tabled s L (take s.op_count a.starts) (take s.op_count a.instances)
    full =
        let h = accepted_given p z in
        let g = h.1 in
        let t = ap (λ (x : PlanAnswer). length x.starts) g.pinned ∙ g.starts_rest.whole in
        let u = ap (λ (x : PlanAnswer). length x.instances) g.pinned ∙ g.instances_rest.whole in
        let m = ops_most h.0.sheet in
        plan_full s a.starts a.instances h.0.sheet (omega arith) (omega arith) (given_first g).plan

    at : ServesPage s L (take s.op_count a.starts) (take s.op_count a.instances) text → text ≡ first_page s L a
    at (at_no n _) = absurd (n (accepted_given p z).0.sheet)
    at (at_yes _ (at_no n _)) = absurd (n (accepted_given p z).0.interval)
    at (at_yes _ (at_yes _ (at_no n _))) = absurd (n full)
    at (at_yes _ (at_yes _ (at_yes _ e))) = e ∙ sym (cut_page s a.starts a.instances L) ∙ sym (page_given s L a z)
