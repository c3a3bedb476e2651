-- The service "page": a plan, given by its starts and instances, as a page into the lent buffer old. What each answer
-- says, and what the buffer then holds. The questions come in numeric order; each answer pins the whole result.
use Rattle.std.specs.Prelude.{ℕ, zero, suc, ◌≤◌, ◌≡◌, List, length}
use Rattle.laws.specs.Entry.{vec}
use Rattle.text.specs.declared.Written.{Written}
use Rattle.text.specs.Text.{over}
use Rattle.text.specs.Line.{refused}
use Rattle.sheet.specs.declared.Sheet.{Sheet}
use Rattle.sheet.specs.Questions.{Asked, Is, AtInterval}
use Rattle.placing_table.specs.declared.Table.{Table}
use Rattle.placing_table.specs.Table.{empty_table, placing, Consistent}
use Rattle.page_text.specs.Page.{page_text}

-- the full table of a plan: each of n operations placed, in an empty table
unfoldable pub full_table : ℕ → List ℕ → List ℕ → Table
full_table zero ts us = empty_table
full_table (suc n) ts us = placing (full_table n ts us) n (vec ts n) (vec us n)

-- the page of a plan
abbrev pub plan_page : Sheet → ℕ → List ℕ → List ℕ → List ℕ
plan_page s L ts us = page_text s L (full_table s.op_count ts us)

-- question 9: the buffer takes the whole page; its length follows from the sheet and the interval alone (a law), so it
-- is asked before 10
abbrev pub Fits : Sheet → ℕ → List ℕ → List ℕ → List ℕ → Type 0
Fits s L ts us old = length (plan_page s L ts us) ≤ length old

-- question 10 of a plan as a full table: one start and one instance per operation, and the table is consistent
pub record Tabled (s : Sheet) (L : ℕ) (ts us : List ℕ) : Type 0 where
  pub starts : length ts ≡ s.op_count
  pub instances : length us ≡ s.op_count
  pub consistent : Consistent s L (full_table s.op_count ts us)

-- that question, then the rest; `refused` makes an answer of a refusal's number
abbrev pub IfTabled : {A : Type 0} → (ℕ → A) → Sheet → ℕ → List ℕ → List ℕ → (A → Type 0) → A → Type 0
IfTabled refused s L ts us Then = Asked (Tabled s L ts us) (Is (refused 10)) Then

-- the answer with its count of bytes, and the buffer
pub record PageAnswer : Type 0 where
  pub written : Written
  pub buffer : List ℕ

-- with a refusal no bytes, and the buffer as it was
abbrev pub page_refused : List ℕ → ℕ → PageAnswer
page_refused old n = record { written = refused n; buffer = old }

-- with 0 the text at the front of the buffer, and its length
abbrev pub printed : List ℕ → List ℕ → PageAnswer
printed text old = record { written = record { answer = 0; count = length text }; buffer = over text old }

-- the service: the sheet's questions, 4, 9 and 10, then the page
abbrev pub PageAt : Sheet → ℕ → List ℕ → List ℕ → List ℕ → PageAnswer → Type 0
PageAt s L ts us old =
    AtInterval (page_refused old) s L
    (Asked (Fits s L ts us old) (Is (page_refused old 9))
    (IfTabled (page_refused old) s L ts us
    (Is (printed (plan_page s L ts us) old))))
