-- What a test of lines answers, line by line.
use Rattle.std.specs.Prelude.{◌≡◌, ℕ, ◌<◌, ◌≤◌, List, length, get_or, take, Result, ⊤}
use Rattle.std.proofs.Common.{ap, ◌∙◌, arith}
use Rattle.std.proofs.lemmas.List.{length-take-le, get_or-take, get_or_default}
use Rattle.refusal.specs.declared.Refusal.{Refusal}
use Rattle.refusal.specs.Number.{answer_of}
use Rattle.sheet.specs.Answer.{first_of}

-- whatever the test gives of line k has the answer f k
abbrev pub Answered : {T : Type 0} → (T → Result ⊤ Refusal → Type 0) → List T → (ℕ → ℕ) → Type 0
Answered {T} Gives lines f = (k : ℕ) (line : T) (r : Result ⊤ Refusal) → k < length lines → line ≡ get_or lines k line → Gives line r → answer_of r ≡ f k

-- ---- laws

-- the first n items, whatever stands past the end
module _ {T : Type 0} {Gives : T → Result ⊤ Refusal → Type 0} (items : List T) (n : ℕ) (d : T) (f : T → ℕ) (h : n ≤ length items) (e : (x : T) (r : Result ⊤ Refusal) → Gives x r → answer_of r ≡ f x) where
  of_items : Answered Gives (take n items) (λ k. f (get_or items k d))
  of_items k x r l is gives =
      let below : k < n = rw (length-take-le n items h) at l in
      e x r gives ∙ ap f (is ∙ (get_or-take n items k x below ∙ get_or_default items k x d (omega arith)))

  pub first_of_items : {a : ℕ} → ((g : ℕ → ℕ) → Answered Gives (take n items) g → a ≡ first_of (length (take n items)) g) → a ≡ first_of n (λ k. f (get_or items k d))
  first_of_items told = rw (length-take-le n items h) at (told (λ k. f (get_or items k d)) of_items)
