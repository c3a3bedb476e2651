-- The answers of the page from what the code finds. Assumes nothing.
use Rattle.std.specs.Prelude.{ℕ, ◌≤◌, ◌<◌, ◌≡◌, List, length}
use Rattle.std.proofs.Common.{arith, ap, ap₂}
use Rattle.text.specs.declared.Written.{Written}
use Rattle.text.specs.Text.{over}
use Rattle.text.specs.Line.{refused}
use Rattle.sheet.specs.declared.Sheet.{Sheet}
use Rattle.sheet.specs.Questions.{at_no, at_yes, AskedAt, Accepted, refuses, goes_on}
use Rattle.page_text.specs.Widths.{page_length, page_long}
use Rattle.page.specs.Answers.{full_table, plan_page, Fits, Tabled, PageAnswer, page_refused, PageAt}

-- the answer with the buffer as it was
abbrev pub keeping : List ℕ → Written → PageAnswer
keeping old w = record { written = w; buffer = old }

-- by the length that the code has
fits : {s : Sheet} {L : ℕ} → Accepted s L → (ts us old : List ℕ) → page_length s L ≤ length old → Fits s L ts us old
fits {s} y ts us old h = let n = page_long y (full_table s.op_count ts us) in omega arith

module _ {s : Sheet} {L : ℕ} {ts us old : List ℕ} where
  pub page_asked : {n : ℕ} {w : Written} → AskedAt s L n → (n ≡ 0 → ⊥) → w ≡ refused n → PageAt s L ts us old (keeping old w)
  page_asked q z e = refuses (page_refused old) q z (ap (keeping old) e)

  module _ (y : Accepted s L) where
    pub page_short : {w : Written} → length old < page_length s L → w ≡ refused 9 → PageAt s L ts us old (keeping old w)
    page_short h e = let n = page_long y (full_table s.op_count ts us) in goes_on (page_refused old) y (at_no (λ f. omega arith) (ap (keeping old) e))

    pub page_denied : {w : Written} → page_length s L ≤ length old → (Tabled s L ts us → ⊥) → w ≡ refused 10 → PageAt s L ts us old (keeping old w)
    page_denied h n e = goes_on (page_refused old) y (at_yes (fits y ts us old h) (at_no n (ap (keeping old) e)))

    pub page_made : {n : ℕ} {new : List ℕ} → page_length s L ≤ length old → Tabled s L ts us → n ≡ length (plan_page s L ts us) → new ≡ over (plan_page s L ts us) old
        → PageAt s L ts us old (record { written = record { answer = 0; count = n }; buffer = new })
    page_made h t e f =
        goes_on (page_refused old) y (at_yes (fits y ts us old h) (at_yes t (ap₂ (λ (k : ℕ) (b : List ℕ). record { written = record { answer = 0; count = k }; buffer = b }) e f)))
