-- Questions in order: the first "no" is the answer. What every service on a sheet asks first is said here, once.
-- Assumes nothing.
use Rattle.std.specs.Prelude.{◌≡◌, ℕ}
use Rattle.std.proofs.Common.{sym, ap, ◌∙◌, arith}
use Rattle.sheet.specs.declared.Sheet.{Sheet}
use Rattle.sheet.specs.Sheet.{InRange, Interval}
use Rattle.sheet.specs.Answer.{sheet_answer}
use Rattle.sheet.specs.AnswerLaws.{sheet_in, sheet_inside, sheet_out}

-- a question P: at a no the answer is one of `No`, at a yes what follows answers
pub data Asked {A : Type 0} (P : Type 0) (No Then : A → Type 0) : A → Type 0 where
  at_no : (P → ⊥) → {a : A} → No a → Asked P No Then a
  at_yes : P → {a : A} → Then a → Asked P No Then a

-- the answer r alone
abbrev pub Is : {A : Type 0} → A → A → Type 0
Is r a = a ≡ r

-- the questions about the sheet, line by line (`Answer.sheet_answer`), then the rest; `refused` makes an answer of a
-- refusal's number
abbrev pub OnSheet : {A : Type 0} → (ℕ → A) → Sheet → (A → Type 0) → A → Type 0
OnSheet refused s Then = Asked (InRange s) (Is (refused (sheet_answer s))) Then

-- those and question 4, then the rest
abbrev pub AtInterval : {A : Type 0} → (ℕ → A) → Sheet → ℕ → (A → Type 0) → A → Type 0
AtInterval refused s L Then = OnSheet refused s (Asked (Interval s L) (Is (refused 4)) Then)

-- the number that these questions answer: 0 where both get a yes
abbrev pub AskedAt : Sheet → ℕ → ℕ → Type 0
AskedAt s L = AtInterval (λ (n : ℕ). n) s L (Is 0)

-- ---- at most one answer fits

-- F holds of one answer at the most
abbrev pub One : {A : Type 0} → (A → Type 0) → Type 0
One {A} F = (a b : A) → F a → F b → a ≡ b

pub is_one : {A : Type 0} (r : A) → One (Is r)
is_one r a b p q = p ∙ sym q

-- what follows may use the yes
pub asked_one_if : {A P : Type 0} {No Then : A → Type 0} → One No → (P → One Then) → One (Asked P No Then)
asked_one_if f g a b (at_no n p) (at_no m q) = f a b p q
asked_one_if f g a b (at_no n p) (at_yes y q) = absurd (n y)
asked_one_if f g a b (at_yes y p) (at_no n q) = absurd (n y)
asked_one_if f g a b (at_yes y p) (at_yes z q) = g y a b p q

pub asked_one : {A P : Type 0} {No Then : A → Type 0} → One No → One Then → One (Asked P No Then)
asked_one f g = asked_one_if f (λ _. g)

pub on_sheet_one : {A : Type 0} (refused : ℕ → A) {s : Sheet} {Then : A → Type 0} → One Then → One (OnSheet refused s Then)
on_sheet_one refused f = asked_one (is_one (refused _)) f

pub at_interval_one : {A : Type 0} (refused : ℕ → A) {s : Sheet} {L : ℕ} {Then : A → Type 0} → One Then → One (AtInterval refused s L Then)
at_interval_one refused f = on_sheet_one refused (asked_one (is_one (refused 4)) f)

-- ---- a service that asked

module _ {s : Sheet} where
  -- the sheet's own questions got a yes
  pub sheet_accepted : {n : ℕ} → n ≡ sheet_answer s → n ≡ 0 → InRange s
  sheet_accepted e z = sheet_inside s (sym e ∙ z)

  pub sheet_refuses : {A : Type 0} (refused : ℕ → A) {Then : A → Type 0} {a : A} {n : ℕ} → n ≡ sheet_answer s → (n ≡ 0 → ⊥) → a ≡ refused n → OnSheet refused s Then a
  sheet_refuses refused e z q = at_no (λ ok. z (e ∙ sheet_in s ok)) (q ∙ ap refused e)

-- those and question 4 got a yes
pub record Accepted (s : Sheet) (L : ℕ) : Type 0 where
  pub sheet : InRange s
  pub interval : Interval s L

module _ {s : Sheet} {L : ℕ} where
  pub accepted : {n : ℕ} → AskedAt s L n → n ≡ 0 → Accepted s L
  accepted (at_no x e) z = absurd (sheet_out s x (sym e ∙ z))
  accepted (at_yes r (at_no x e)) z = absurd (omega (arith, e, z))
  accepted (at_yes r (at_yes i e)) z = record { sheet = r; interval = i }

  pub refuses : {A : Type 0} (refused : ℕ → A) {Then : A → Type 0} {a : A} {n : ℕ} → AskedAt s L n → (n ≡ 0 → ⊥) → a ≡ refused n → AtInterval refused s L Then a
  refuses refused (at_no x e) z q = at_no x (q ∙ ap refused e)
  refuses refused (at_yes r (at_no x e)) z q = at_yes r (at_no x (q ∙ ap refused e))
  refuses refused (at_yes r (at_yes i e)) z q = absurd (z e)

  pub goes_on : {A : Type 0} (refused : ℕ → A) {Then : A → Type 0} {a : A} → Accepted s L → Then a → AtInterval refused s L Then a
  goes_on refused y t = at_yes y.sheet (at_yes y.interval t)
